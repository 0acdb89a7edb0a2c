use Rattle.std.proofs.Common.{◌≡◌, length}
use Rattle.px_patterns.specs.Runs.{behind_first_place}
use Rattle.px_patterns.proofs.labels.behind_first.Given as goal

abbrev pub invariant-places : goal.invariant-places
invariant-places l = behind_first_place l.items l.bytes ≡ behind_first_place l.items l.rest

abbrev pub decreases-places : goal.decreases-places
decreases-places l = length l.rest
