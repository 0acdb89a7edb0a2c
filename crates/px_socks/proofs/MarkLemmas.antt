-- No two links have the same mark unless all of it is the same.
use Rattle.std.proofs.Common.{◌≡◌, ℕ, ◌+◌, ◌*◌, ◌<◌, ◌≤◌, Bool, true, false, List, [], ◌∷◌, sym, ap, ◌∙◌, arith, refl, inl, inr}
use Rattle.std.proofs.lemmas.Nat.{mul-le}
use Rattle.std.proofs.lemmas.Bool.{cases_lt}
use Rattle.std.proofs.Math.Nat.{mul-add, add-mul}
use Rattle.px_socks.specs.declared.ends.HandshakePassage.{HandshakePassage}
use Rattle.px_socks.specs.Marks.{paired_mark, list_code, mark_behind}

next_square : (s : ℕ) → (s + 1) * (s + 1) ≡ s * s + s + s + 1
next_square s = omega (arith, mul-add (s + 1) s 1, add-mul s 1 s)

no_gap : (s t a b : ℕ) → s < t → a ≤ s → ¬ (s * s + a ≡ t * t + b)
no_gap s t a b less few e = omega (arith, next_square s, mul-le (s + 1) (s + 1) t t (omega arith) (omega arith), e)

same_root : (s t a b : ℕ) → a ≤ s → b ≤ t → s * s + a ≡ t * t + b → s ≡ t
same_root s t a b h k e = elim (cases_lt s t) as (λ _. s ≡ t) [
  | inl less ↦ absurd (no_gap s t a b less h e)
  | inr ge ↦ elim (cases_lt t s) as (λ _. s ≡ t) [ inl more ↦ absurd (no_gap t s b a more k (sym e)) | inr le ↦ omega arith ]
]

pub pair_injective : (a b c d : ℕ) → paired_mark a b ≡ paired_mark c d → (a ≡ c) × (b ≡ d)
unfolding paired_mark
pair_injective a b c d e =
    let roots : a + b ≡ c + d = same_root (a + b) (c + d) a c (omega arith) (omega arith) e in
    let squares : (a + b) * (a + b) ≡ (c + d) * (c + d) = ap (λ (s : ℕ). s * s) roots in
    let first : a ≡ c = omega (arith, e, squares) in
    (first, omega arith)

pub list_code_injective : (xs ys : List ℕ) → list_code xs ≡ list_code ys → xs ≡ ys
unfolding list_code
list_code_injective [] [] e = refl
list_code_injective [] (y ∷ ys) e = absurd (omega (arith, e))
list_code_injective (x ∷ xs) [] e = absurd (omega (arith, e))
list_code_injective (x ∷ xs) (y ∷ ys) e =
    let p = pair_injective x (list_code xs) y (list_code ys) (omega (arith, e)) in
    let same = list_code_injective xs ys p.1 in
    ap (λ (n : ℕ). n ∷ xs) p.0 ∙ ap (λ (l : List ℕ). y ∷ l) same

pub same_passage : (p q : HandshakePassage) → p.heard ≡ q.heard → p.messages ≡ q.messages → p ≡ q
same_passage p q e f = ap (λ (n : ℕ). record p { heard = n }) e ∙ ap (λ (l : List ℕ). record q { messages = l }) f

-- an end with the mark of a link that tells
pub record SameLink (t : Bool) (p q : HandshakePassage) (m n : ℕ) : Type 0 where
  pub tells : t ≡ true
  pub passage : p ≡ q
  pub mark : m ≡ n

pub mark_injective : (t : Bool) (p q : HandshakePassage) (m n : ℕ) → mark_behind t p m ≡ mark_behind true q n → SameLink t p q m n
unfolding mark_behind
mark_injective true p q m n e =
    let outer = pair_injective m (paired_mark p.heard (list_code p.messages)) n (paired_mark q.heard (list_code q.messages)) (omega (arith, e)) in
    let inner = pair_injective p.heard (list_code p.messages) q.heard (list_code q.messages) outer.1 in
    record { tells = refl; passage = same_passage p q inner.0 (list_code_injective p.messages q.messages inner.1); mark = outer.0 }
mark_injective false p q m n e = absurd (omega (arith, e))
