-- Changes of a list of guests that leave those in use.
use Rattle.std.proofs.Common.{◌≡◌, ℕ, zero, suc, ◌<◌, Bool, true, false, List, [], ◌∷◌, length, slice_index_or, slice_set, sym, ap, ◌∙◌, refl, arith, ◌⊎◌, inl, inr}
use Rattle.std.specs.Prelude.{if◌then◌else◌}
use Rattle.std.specs.List.{remove}
use Rattle.px_sockets.specs.declared.guests.Guest.{Guest}
use Rattle.px_sockets.specs.Guests.{in_use}

two : (b : Bool) → (b ≡ true) ⊎ (b ≡ false)
two true = inl refl
two false = inr refl

behind : (g : Guest) (xs ys : List Guest) → in_use xs ≡ in_use ys → in_use (g ∷ xs) ≡ in_use (g ∷ ys)
behind g xs ys e = ap (λ (l : List Guest). if g.ended then l else g ∷ l) e

-- one that has ended isn't in use
gone : (g : Guest) (gs : List Guest) → g.ended ≡ true → in_use (g ∷ gs) ≡ in_use gs
gone g gs h = ap (λ (b : Bool). if b then in_use gs else g ∷ in_use gs) h

-- one that has ended is changed, or one in use stays
pub used_set : (gs : List Guest) (at : ℕ) (old new : Guest) → at < length gs → slice_index_or gs at old ≡ old → new.ended ≡ old.ended → (old.ended ≡ false → new ≡ old) → in_use (slice_set gs at new) ≡ in_use gs
used_set [] at old new h e same used = absurd (omega (arith, h))
used_set (g ∷ gs) zero old new h e same used = elim (two old.ended) as (λ _. in_use (new ∷ gs) ≡ in_use (g ∷ gs)) [
  | inl over ↦ gone new gs (same ∙ over) ∙ sym (gone g gs (ap (λ (x : Guest). x.ended) e ∙ over))
  | inr here ↦ ap (λ (x : Guest). in_use (x ∷ gs)) (used here ∙ sym e)
]
used_set (g ∷ gs) (suc at) old new h e same used = behind g (slice_set gs at new) gs (used_set gs at old new (omega (arith, h)) e same used)

-- one that has ended is taken away
pub used_removed : (gs : List Guest) (at : ℕ) → at < length gs → ((d : Guest) → (slice_index_or gs at d).ended ≡ true) → in_use (remove gs at) ≡ in_use gs
used_removed [] at h ended = absurd (omega (arith, h))
used_removed (g ∷ gs) zero h ended = sym (gone g gs (ended g))
used_removed (g ∷ gs) (suc at) h ended = behind g (remove gs at) gs (used_removed gs at (omega (arith, h)) ended)
