use Rattle.std.proofs.Common.{◌≡◌, length}
use Rattle.px_patterns.specs.Hosts.{last_plain}
use Rattle.px_patterns.proofs.hosts.last_plain.Given as goal

abbrev pub invariant-labels : goal.invariant-labels
invariant-labels l = last_plain l.patterns ≡ last_plain l.left

abbrev pub decreases-labels : goal.decreases-labels
decreases-labels l = length l.left
