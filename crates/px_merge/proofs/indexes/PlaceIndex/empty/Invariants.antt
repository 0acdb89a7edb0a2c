use Rattle.std.proofs.Common.{◌≡◌, ℕ}
use Rattle.px_merge.specs.Indexes.{slots_weight}
use Rattle.px_merge.specs.declared.places.PatternPlace.{PatternPlace}
use Rattle.px_merge.proofs.indexes.PlaceIndex.empty.Given as goal

abbrev pub invariant-slots : goal.invariant-slots
invariant-slots l = (weigh : PatternPlace → ℕ) → slots_weight weigh l.slots.items ≡ 0
