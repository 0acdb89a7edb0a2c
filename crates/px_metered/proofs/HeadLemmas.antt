-- Where a head ends, as byte after byte of it comes.
use Rattle.std.proofs.Common.{◌≡◌, ℕ, zero, suc, ◌<◌, false, List, [], ◌∷◌, ◌++◌, take, Some, None, refl, ap, sym, ◌∙◌, arith, inl, inr}
use Rattle.std.specs.Prelude.{◌==◌, slice_index}
use Rattle.std.proofs.lemmas.Bool.{cases_eq, eq-eqb, ne_eqb}
use Rattle.px_metered.specs.Returned.{behind_empty_line, empty_line, first_line}

-- a part of the empty line ends no head
pub none_yet : (k : ℕ) → k < 4 → behind_empty_line (take k empty_line ++ []) ≡ None
unfolding behind_empty_line
none_yet zero h = refl
none_yet (suc zero) h = refl
none_yet (suc (suc zero)) h = refl
none_yet (suc (suc (suc zero))) h = refl
none_yet (suc (suc (suc (suc k)))) h = absurd (omega arith)

-- behind the empty line is what comes
pub behind_empty : (more : List ℕ) → behind_empty_line (empty_line ++ more) ≡ Some more
unfolding behind_empty_line
behind_empty more = refl

-- a byte that isn't a CR begins no empty line
pub plain_byte : (b : ℕ) (more : List ℕ) → (b ≡ 13 → ⊥) → behind_empty_line (b ∷ more) ≡ behind_empty_line more
unfolding behind_empty_line
plain_byte b more h = let e : (13 == b) ≡ false = ne_eqb 13 b (λ (e : 13 ≡ b). h (sym e)) in rw e refl

-- behind a CR, a byte that isn't an LF begins anew
pub behind_return : (b : ℕ) (more : List ℕ) → (b ≡ 10 → ⊥) → behind_empty_line (13 ∷ b ∷ more) ≡ behind_empty_line (b ∷ more)
unfolding behind_empty_line
behind_return b more h = let e : (10 == b) ≡ false = ne_eqb 10 b (λ (e : 10 ≡ b). h (sym e)) in rw e refl

-- behind a line's end, a byte that isn't a CR begins anew
pub behind_line : (b : ℕ) (more : List ℕ) → (b ≡ 13 → ⊥) → behind_empty_line (13 ∷ 10 ∷ b ∷ more) ≡ behind_empty_line (b ∷ more)
unfolding behind_empty_line
behind_line b more h = let e : (13 == b) ≡ false = ne_eqb 13 b (λ (e : 13 ≡ b). h (sym e)) in rw e refl

-- behind a line's end and a CR, a byte that isn't an LF begins anew
pub behind_second : (b : ℕ) (more : List ℕ) → (b ≡ 10 → ⊥) → behind_empty_line (13 ∷ 10 ∷ 13 ∷ b ∷ more) ≡ behind_empty_line (b ∷ more)
unfolding behind_empty_line
behind_second b more h = let e : (10 == b) ≡ false = ne_eqb 10 b (λ (e : 10 ≡ b). h (sym e)) in rw e refl

-- a byte that doesn't go on with the empty line begins anew
pub begins_anew : (k b : ℕ) (more : List ℕ) → k < 4 → (b ≡ slice_index empty_line k → ⊥) → behind_empty_line (take k empty_line ++ b ∷ more) ≡ behind_empty_line (b ∷ more)
begins_anew zero b more h ne = refl
begins_anew (suc zero) b more h ne = behind_return b more ne
begins_anew (suc (suc zero)) b more h ne = behind_line b more ne
begins_anew (suc (suc (suc zero))) b more h ne = behind_second b more ne
begins_anew (suc (suc (suc (suc k)))) b more h ne = absurd (omega arith)

-- the first line of a whole head is whole
pub line_whole : (bytes more rest : List ℕ) → behind_empty_line bytes ≡ Some rest → first_line (bytes ++ more) ≡ first_line bytes
unfolding behind_empty_line first_line
line_whole [] more rest e = absurd (cc)
line_whole (b ∷ bytes) more rest e =
    elim (cases_eq b 13) [
      | inl same ↦ rw (eq-eqb b 13 same) refl
      | inr other ↦ rw (ne_eqb b 13 other) (ap (λ (line : List ℕ). b ∷ line) (line_whole bytes more rest (sym (plain_byte b bytes other) ∙ e)))
    ]
