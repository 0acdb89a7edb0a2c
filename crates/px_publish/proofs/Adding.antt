-- The exchange that adds an entry keeps the rule.
use Rattle.std.proofs.Common.{◌≡◌, ℕ, ◌+◌, ◌<◌, ◌==◌, Bool, true, false, List, [], ◌∷◌, ◌++◌, length, refl, ap, sym, ◌∙◌, subst, arith, inl, length-append, append-nil, None}
use Rattle.std.proofs.lemmas.Bool.Decides.{nat_tests}
use mathlib.Core.List.{IsPrefix}
use prog.Atomic.{either}
use Rattle.logbook.specs.Pages.{Cell, cell, keeps, no_nib, step, Moves, Goes}
use Rattle.px_publish.specs.Lists.{IsKeptList, AddsToSeen}
use Rattle.px_publish.proofs.FrontLemmas.{prefix_whole}

module _ {C : Type 0} where
  abbrev pub shown : List C → List C
  shown log = []

  abbrev pub moved : List C → List C → Unit {0} → Type 0
  moved xs ys n = Unit {0}

  pub adds_goes : (log v : List C) (e : C) (old number : ℕ) → length v ≡ old + 1 → length log ≡ number + 1 → IsPrefix v log
      → (b : Bool) → (number == old) ≡ b
      → Goes IsKeptList shown moved 0 (v, (no_nib, None)) (λ n. either (n == old) (old + 1) n) (AddsToSeen (step 0 old (old + 1) e) (v, (no_nib, None))) ((number, true) ∷ []) log
  adds_goes log v e old number len newest pre true is =
      let here : number ≡ old = grind (arith, nat_tests) in
      let same : v ≡ log = prefix_whole v log pre (omega arith) in
      let n : either (number == old) (old + 1) number ≡ old + 1 = rw is in (
        keeps,
        e ∷ [],
        None,
        tt,
        record { number = old + 1; newest = omega (arith, length-append log (e ∷ [])); word = ap (λ (k : ℕ). (k, true) ∷ []) n },
        inl (refl, refl),
        λ _. ap (λ w. w ++ e ∷ []) (sym same),
      )
  adds_goes log v e old number len newest pre false is =
      let n : either (number == old) (old + 1) number ≡ number = rw is in
      let other : number ≡ old → ⊥ = λ same. grind (arith, nat_tests) in (
        keeps,
        [],
        None,
        tt,
        record { number = number; newest = ap length (append-nil log) ∙ newest; word = ap (λ (k : ℕ). (k, true) ∷ []) n },
        inl (refl, refl),
        λ same. absurd (other same),
      )

  pub adds_moves : (v : List C) (e : C) (old : ℕ) → length v ≡ old + 1
      → Moves IsKeptList shown moved 0 (v, (no_nib, None)) (λ n. either (n == old) (old + 1) n) (AddsToSeen (step 0 old (old + 1) e) (v, (no_nib, None)))
  adds_moves v e old len cs log kept pre away =
      let P : List Cell → Type 0 = λ c. (0 < length c) × ((cell c 0).1 ≡ true) × Goes IsKeptList shown moved 0 (v, (no_nib, None)) (λ n. either (n == old) (old + 1) n) (AddsToSeen (step 0 old (old + 1) e) (v, (no_nib, None))) c log in
      subst P (sym kept.word) (omega arith, refl, adds_goes log v e old kept.number len kept.newest pre (kept.number == old) refl)
