use Rattle.std.proofs.Common.{◌≡◌, false, take}
use Rattle.px_patterns.specs.Runs.{has_run}
use Rattle.px_patterns.proofs.labels.cut_at_run.Given as goal

abbrev pub invariant-loop-at : goal.invariant-loop-at
invariant-loop-at l = has_run (take l.at l.items) ≡ false
