-- A search of a word place by place.
use Rattle.std.proofs.Common.{◌≡◌, ℕ, suc, ◌+◌, ◌<◌, ◌≤◌, Bool, true, false, List, Some, None, length, take, drop, refl, ap, sym, ◌∙◌, ◌-◌, length-drop}
use Rattle.std.proofs.Math.Seq.{take-length}
use Rattle.std.proofs.lemmas.Bool.{cond-true, cond-false, false≢true, and_from, and_parts, le-leb, lt-leb}
use Rattle.std.proofs.lemmas.Slice.Eq.{bytes_eq-Decides}
use Rattle.std.specs.List.{starts_with}
use Rattle.std.specs.Prelude.{◌&&◌, nat_eq}
use Rattle.std.specs.Str.{bytes_eq}
use Rattle.memchr.specs.Find.{first_of, matches_from, occurs_at}

same-test : (a b : Bool) → (a ≡ true → b ≡ true) → (b ≡ true → a ≡ true) → a ≡ b
same-test true b there back = sym (there refl)
same-test false true there back = back refl
same-test false false there back = refl

-- the word stands at a place where what stands there begins with it
occurs-is : (text word : List ℕ) (at : ℕ) → (starts_with nat_eq (drop at text) word ≡ true → at + length word ≤ length text) → occurs_at text word at ≡ starts_with nat_eq (drop at text) word
occurs-is text word at fits =
    same-test _ _
    (λ is. (bytes_eq-Decides word (take (length word) (drop at text))).1 (sym ((bytes_eq-Decides (take (length word) (drop at text)) word).0 (and_parts _ _ is).1)))
    (λ is. and_from _ _ (le-leb _ _ (fits is)) ((bytes_eq-Decides (take (length word) (drop at text)) word).1 (sym ((bytes_eq-Decides word (take (length word) (drop at text))).0 is))))

pub first_here : (text word : List ℕ) (at k n : ℕ) → k ≡ suc n → at + length word ≤ length text → starts_with nat_eq (drop at text) word ≡ true → first_of (matches_from text word 0 at k) ≡ Some at
unfolding first_of matches_from
first_here text word at k n is fits here =
    ap (λ m. first_of (matches_from text word 0 at m)) is ∙ ap first_of (cond-true _ _ _ (occurs-is text word at (λ _. fits) ∙ here))

pub first_later : (text word : List ℕ) (at k n : ℕ) → k ≡ suc n → starts_with nat_eq (drop at text) word ≡ false
    → first_of (matches_from text word 0 at k) ≡ first_of (matches_from text word 0 (at + 1) n)
unfolding first_of matches_from
first_later text word at k n is other =
    ap (λ m. first_of (matches_from text word 0 at m)) is ∙ ap first_of (cond-false _ _ _ (occurs-is text word at (λ here. absurd (false≢true (sym other ∙ here))) ∙ other))

-- a word isn't found at the end
pub first_none : (text word : List ℕ) (at k : ℕ) → k ≡ 1 → length text < at + length word → first_of (matches_from text word 0 at k) ≡ None
unfolding first_of matches_from
first_none text word at k is over =
    ap (λ m. first_of (matches_from text word 0 at m)) is ∙ ap first_of (cond-false _ _ _ (ap (λ b. b && bytes_eq (take (length word) (drop at text)) word) (lt-leb _ _ over)))

-- a slice from a place on
pub from-place : (text : List ℕ) (at : ℕ) → take (length text - at) (drop at text) ≡ drop at text
from-place text at = ap (λ n. take n (drop at text)) (sym (length-drop at text)) ∙ take-length (drop at text)
