-- Expressions that are asked together.
use Rattle.std.proofs.Common.{◌≡◌, ◌↔◌, ◌<◌, ℕ, Bool, true, false, IsTrue, List, [], ◌∷◌, ◌++◌, map, refl, ap, ap₂, sym, ◌∙◌}
use Rattle.std.specs.Prelude.{Any, ◌||◌, is_some, slice_index}
use Rattle.std.specs.List.{list_any}
use Rattle.std.proofs.lemmas.List.Folds.{Any-from_list_any, list_any-from_Any}
use Rattle.regex_hir.specs.Find.{find}
use Rattle.regex_hir.specs.Re.{Re}
use Rattle.regex.specs.Bytes.{regex_pattern, regex_source}
use Rattle.regex.specs.Sets.{matches_of}
use Rattle.regex.specs.declared.bytes.regex.Regex.{Regex}
use Rattle.px_patterns.specs.Expressions.{IsBuiltFrom, finds}
use Rattle.px_patterns.specs.Searches.{AreFoundAs, FindsAs}
use Rattle.px_patterns.proofs.ExpressionLemmas.{finds_as_built}

-- one expression more
found_after : (regexes : List Regex) (regex : Regex) → AreFoundAs (map regex_source regexes) (map regex_pattern regexes) → FindsAs (regex_source regex) (regex_pattern regex) →
    AreFoundAs (map regex_source (regexes ++ regex ∷ [])) (map regex_pattern (regexes ++ regex ∷ []))
found_after [] regex all one = (one, tt)
found_after (first ∷ regexes) regex all one = (all.0, found_after regexes regex all.1 one)

pub found_push : (regexes after : List Regex) (regex : Regex) (text : List ℕ) → after ≡ regexes ++ regex ∷ [] → AreFoundAs (map regex_source regexes) (map regex_pattern regexes) → IsBuiltFrom text regex →
    AreFoundAs (map regex_source after) (map regex_pattern after)
found_push regexes after regex text is all built = rw is (found_after regexes regex all (finds_as_built regex built.1))

-- the answer over patterns is the one over texts
pub any_texts : (texts : List (List ℕ)) (patterns : List Re) (bytes : List ℕ) → AreFoundAs texts patterns → ((k : ℕ) → slice_index bytes k < 256) →
    list_any (λ re. is_some (find re bytes 0)) patterns ≡ list_any (λ text. finds text bytes) texts
any_texts [] [] bytes all fits = refl
any_texts [] (re ∷ patterns) bytes all fits = absurd all
any_texts (text ∷ texts) [] bytes all fits = absurd all
any_texts (text ∷ texts) (re ∷ patterns) bytes all fits = ap₂ ◌||◌ (all.0 bytes fits) (any_texts texts patterns bytes all.1 fits)

any_mapped : (patterns : List Re) (test : Re → Bool) → list_any (λ (b : Bool). b) (map test patterns) ≡ list_any test patterns
any_mapped [] test = refl
any_mapped (re ∷ patterns) test = ap (λ b. test re || b) (any_mapped patterns test)

same_truth : (r b : Bool) → (r ≡ true → b ≡ true) → (b ≡ true → r ≡ true) → r ≡ b
same_truth true b to from = sym (to refl)
same_truth false true to from = from refl
same_truth false false to from = refl

-- what a search for any says, as a test
pub any_found : (patterns : List Re) (bytes : List ℕ) (r : Bool) → (IsTrue r ↔ Any IsTrue (matches_of false patterns bytes 0)) → r ≡ list_any (λ re. is_some (find re bytes 0)) patterns
any_found patterns bytes r is =
    same_truth r _
    (λ yes. sym (any_mapped patterns (λ re. is_some (find re bytes 0))) ∙ list_any-from_Any (λ (b : Bool). b) (map (λ re. is_some (find re bytes 0)) patterns) (is.0 yes))
    (λ some. is.1 (Any-from_list_any (λ (b : Bool). b) (map (λ re. is_some (find re bytes 0)) patterns) (any_mapped patterns (λ re. is_some (find re bytes 0)) ∙ some)))
