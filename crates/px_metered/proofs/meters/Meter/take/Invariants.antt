use Rattle.std.proofs.Common.{length, ◌-◌, ◌++◌, List, ℕ, take}
use Rattle.px_metered.specs.Measuring.{Measures}
use Rattle.px_metered.proofs.meters.Meter.take.Given as goal

abbrev pub invariant-loop-at : goal.invariant-loop-at
invariant-loop-at l = (came : List ℕ) → Measures l.initial.self came → Measures l.self (came ++ take l.at l.bytes)

abbrev pub decreases-loop-at : goal.decreases-loop-at
decreases-loop-at l = length l.bytes - l.at
