-- Views: the entries that a source of configurations has had, in order.
use Rattle.std.specs.Prelude.{◌≡◌, ℕ, zero, suc, ◌+◌, ◌≤◌, List, [], ◌∷◌, length, Some, slice_get}
use mathlib.Core.List.{IsPrefix}
use Rattle.logbook.specs.Pages.{Book}

-- which publisher and readers belong together
abbrev pub Pair : Type 0
Pair = Book

-- an entry of a list of configurations
pub record Entry (C : Type 0) : Type 0 where
  -- its place in the list, from 0
  pub number : ℕ
  pub config : C

-- the entry is the view's last, which the source holds
pub record EndsIn {C : Type 0} (view : List C) (entry : Entry C) : Type 0 where
  pub number : length view ≡ entry.number + 1
  pub config : slice_get view entry.number ≡ Some entry.config

-- what a look gives, by the entries that the looks to come will give: the first of them, and there is one
abbrev pub LookGives : {C : Type 0} → List (Entry C) → List C → Type 0
LookGives [] view = ⊥
LookGives (next ∷ rest) view = EndsIn view next

-- the configuration is the view's last
abbrev pub IsLast : {C : Type 0} → List C → C → Type 0
IsLast view config = (number : ℕ) → length view ≡ number + 1 → slice_get view number ≡ Some config

-- entries may have come, at the end; none went and none changed. So an equal number means an equal entry
pub record GoesOn {C : Type 0} (old new : List C) : Type 0 where
  pub prefix : IsPrefix old new
  pub longer : length old ≤ length new
  pub stands : (number : ℕ) (config : C) → slice_get old number ≡ Some config → slice_get new number ≡ Some config
  pub same : length new ≡ length old → new ≡ old

-- the configuration so far behind the first, or the last
abbrev pub config_behind : {C : Type 0} → C → List C → ℕ → C
config_behind first [] k = first
config_behind first (next ∷ rest) zero = first
config_behind first (next ∷ rest) (suc k) = config_behind next rest k

-- the entries of configurations, by their order from that number on
abbrev pub numbered : {C : Type 0} → ℕ → List C → List (Entry C)
numbered number [] = []
numbered number (config ∷ rest) = record { number = number; config = config } ∷ numbered (number + 1) rest
