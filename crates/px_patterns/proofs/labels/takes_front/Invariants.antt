use Rattle.std.proofs.Common.{◌≡◌, drop}
use Rattle.px_patterns.specs.Runs.{takes_front}
use Rattle.px_patterns.proofs.labels.takes_front.Given as goal

abbrev pub invariant-loop-at : goal.invariant-loop-at
invariant-loop-at l = takes_front l.items l.bytes ≡ takes_front (drop l.at l.items) (drop l.at l.bytes)
