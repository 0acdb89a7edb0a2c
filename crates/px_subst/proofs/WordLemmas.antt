-- One word or byte further in a text with words.
use Rattle.std.proofs.Common.{◌≡◌, ℕ, zero, suc, ◌+◌, ◌-◌, ◌<◌, List, [], ◌∷◌, ◌++◌, drop, length, refl, ap, ◌∙◌, arith, lit<, length-drop, Some}
use Rattle.px_subst.specs.declared.words.Vars.{Vars}
use Rattle.std.proofs.lemmas.List.{drop-drop}
use Rattle.std.specs.Option.{option_map_or}
use Rattle.px_subst.specs.declared.words.Word.{Word}
use Rattle.px_subst.specs.declared.words.Word.TheVariants.{Host, Origin, Path, Url}
use Rattle.px_subst.specs.Words.{filled, filled_behind, text_of, word_value, word_at}

-- the bytes of a word are passed over
pub filled_behind-drop : (vars : Vars) (n : ℕ) (text : List ℕ) → filled_behind vars n text ≡ filled vars (drop n text)
filled_behind-drop vars zero text = refl
filled_behind-drop vars (suc n) [] = refl
filled_behind-drop vars (suc n) (b ∷ bs) = filled_behind-drop vars n bs

text_is_some : (word : Word) → 0 < length (text_of word)
text_is_some Host = lit< tt
text_is_some Origin = lit< tt
text_is_some Path = lit< tt
text_is_some Url = lit< tt

at_word : (vars : Vars) (text : List ℕ) (word : Word) → 0 < length text → word_at text ≡ Some word →
    filled vars text ≡ word_value vars word ++ filled vars (drop (length (text_of word)) text)
at_word vars [] word some is = absurd (omega arith)
at_word vars (b ∷ bs) word some is =
    ap (λ o. option_map_or (λ w. word_value vars w ++ filled_behind vars (length (text_of w) - 1) bs) o (b ∷ filled vars bs)) is
    ∙ ap (λ s. word_value vars word ++ s) (filled_behind-drop vars (length (text_of word) - 1) bs ∙ ap (filled vars) (behind (length (text_of word)) (text_is_some word)))
  where
    behind : (n : ℕ) → 0 < n → drop (n - 1) bs ≡ drop n (b ∷ bs)
    behind zero h = absurd (omega arith)
    behind (suc n) h = let e : suc n - 1 ≡ n = omega arith in ap (λ k. drop k bs) e

-- where a word stands, its value stands for it
pub filled-word : (vars : Vars) (text : List ℕ) (at : ℕ) (word : Word) → at < length text → word_at (drop at text) ≡ Some word →
    filled vars (drop at text) ≡ word_value vars word ++ filled vars (drop (at + length (text_of word)) text)
filled-word vars text at word inside is =
    at_word vars (drop at text) word (omega (arith, length-drop at text)) is
    ∙ ap (λ s. word_value vars word ++ filled vars s) (drop-drop (length (text_of word)) at text)
