use Rattle.std.proofs.Common.{◌≡◌, length}
use Rattle.px_patterns.specs.Hosts.{labels_in}
use Rattle.px_patterns.proofs.HostLemmas.{ends}
use Rattle.px_patterns.proofs.hosts.matches_at_end.Given as goal

abbrev pub invariant-labels : goal.invariant-labels
invariant-labels l = ends l.patterns (labels_in l.host) ≡ ends l.left (labels_in l.rest)

abbrev pub decreases-labels : goal.decreases-labels
decreases-labels l = length l.left
