use Rattle.std.proofs.Common.{◌≡◌, length}
use Rattle.px_patterns.specs.Globs.{glob_matches, some_tail}
use Rattle.px_patterns.proofs.labels.run_matches.Given as goal

abbrev pub invariant-runs : goal.invariant-runs
invariant-runs l = some_tail (glob_matches l.initial.items) l.initial.label ≡ some_tail (glob_matches l.items) l.label

abbrev pub decreases-runs : goal.decreases-runs
decreases-runs l = length l.items
