-- The four words that a job with the flag `D` replaces.
use Rattle.std.specs.Prelude.{ℕ, zero, suc, ◌-◌, nat_eq, List, [], ◌∷◌, ◌++◌, length, Option, codes, find}
use Rattle.std.specs.List.{starts_with}
use Rattle.std.specs.Option.{option_map_or}
use Rattle.px_subst.specs.declared.words.Vars.{Vars}
use Rattle.px_subst.specs.declared.words.Word.{Word}
use Rattle.px_subst.specs.declared.words.Word.TheVariants.{Host, Origin, Path, Url}

abbrev pub text_of : Word → List ℕ
text_of Host = codes "$host"
text_of Origin = codes "$origin"
text_of Path = codes "$path"
text_of Url = codes "$url"

abbrev pub word_value : Vars → Word → List ℕ
word_value vars Host = vars.host
word_value vars Origin = vars.origin
word_value vars Path = vars.path
word_value vars Url = vars.url

-- the word with which the text begins
abbrev pub word_at : List ℕ → Option Word
word_at text = find (λ word. starts_with nat_eq text (text_of word)) (Host ∷ Origin ∷ Path ∷ Url ∷ [])

-- The text behind its first bytes, with a value in the place of each word. A value isn't searched.
abbrev pub filled_behind : Vars → ℕ → List ℕ → List ℕ
filled_behind vars n [] = []
filled_behind vars (suc n) (b ∷ bs) = filled_behind vars n bs
filled_behind vars zero (b ∷ bs) =
    option_map_or (λ word. word_value vars word ++ filled_behind vars (length (text_of word) - 1) bs) (word_at (b ∷ bs))
    (b ∷ filled_behind vars 0 bs)

abbrev pub filled : Vars → List ℕ → List ℕ
filled vars text = filled_behind vars 0 text
