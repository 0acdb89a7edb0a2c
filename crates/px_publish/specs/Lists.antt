-- The published list, as threads share it.
use Rattle.std.specs.Prelude.{ℕ, ◌≡◌, ◌+◌, true, List, [], ◌∷◌, ◌++◌, length, take}
use Rattle.logbook.specs.Pages.{Cell, Step, View}

-- the list has a last entry, and the one word is its number
pub record IsKeptList {C : Type 0} (cells : List Cell) (log : List C) : Type 0 where
  pub number : ℕ
  pub newest : length log ≡ number + 1
  pub word : cells ≡ (number, true) ∷ []

-- where the word was the number expected, the entry was added to all that had been seen
abbrev pub AddsToSeen : {C A : Type 0} → Step C → View C A → ℕ → View C A → Type 0
AddsToSeen s v found w = found ≡ s.old → w.0 ≡ v.0 ++ s.ask ∷ []

-- the first list begins the second
abbrev pub IsFront : {C : Type 0} → List C → List C → Type 0
IsFront front whole = front ≡ take (length front) whole
