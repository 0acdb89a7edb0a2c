-- How expressions are searched.
use Rattle.std.specs.Prelude.{◌≡◌, ◌≢◌, ℕ, ◌<◌, List, [], ◌∷◌, codes, is_some, slice_index}
use Rattle.regex_hir.specs.Re.{Re}
use Rattle.regex_hir.specs.Find.{find}
use Rattle.regex.specs.Bytes.{regex_pattern, regex_source}
use Rattle.regex.specs.declared.bytes.regex.Regex.{Regex}
use Rattle.px_patterns.specs.declared.expressions.ExpressionSearch.{ExpressionSearch}
use Rattle.px_patterns.specs.declared.expressions.ExpressionSearch.TheVariants.{Built, FirstSlash}
use Rattle.px_patterns.specs.Expressions.{IsBuilt, finds}

-- the text of what is searched
abbrev pub searched_text : ExpressionSearch → List ℕ
searched_text FirstSlash = codes "^/"
searched_text (Built regex) = regex_source regex.value

-- what the library made is of another text than `^/`
abbrev pub IsSearch : ExpressionSearch → Type 0
IsSearch FirstSlash = Unit {0}
IsSearch (Built regex) = IsBuilt regex.value × (regex_source regex.value ≢ codes "^/")

-- a pattern has a match in bytes where the expression of a text has one
abbrev pub FindsAs : List ℕ → Re → Type 0
FindsAs text re = (bytes : List ℕ) → ((k : ℕ) → slice_index bytes k < 256) → is_some (find re bytes 0) ≡ finds text bytes

-- each pattern has a match where the expression of its text has one
abbrev pub AreFoundAs : List (List ℕ) → List Re → Type 0
AreFoundAs [] [] = Unit {0}
AreFoundAs [] (re ∷ patterns) = ⊥
AreFoundAs (text ∷ texts) [] = ⊥
AreFoundAs (text ∷ texts) (re ∷ patterns) = FindsAs text re × AreFoundAs texts patterns

-- what the library made searches for the expression of a text, which isn't `^/`
pub record SearchesFor (text : List ℕ) (regex : Regex) : Type 0 where
  pub finds : FindsAs text (regex_pattern regex)
  pub other : text ≢ codes "^/"
