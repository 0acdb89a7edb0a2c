use Rattle.std.proofs.Common.{◌≡◌, length}
use Rattle.px_patterns.specs.Hosts.{fitting_labels, labels_in}
use Rattle.px_patterns.proofs.hosts.HostLabels.matches_forwards.Given as goal

abbrev pub invariant-labels : goal.invariant-labels
invariant-labels l = fitting_labels l.self (labels_in l.host) ≡ fitting_labels l.self (labels_in l.rest)

abbrev pub decreases-labels : goal.decreases-labels
decreases-labels l = length l.rest
