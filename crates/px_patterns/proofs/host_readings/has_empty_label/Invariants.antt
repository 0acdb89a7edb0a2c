use Rattle.std.proofs.Common.{◌≡◌, ◌==◌, length}
use Rattle.std.specs.List.{list_any}
use Rattle.px_patterns.specs.Hosts.{labels_in}
use Rattle.px_patterns.proofs.host_readings.has_empty_label.Given as goal

abbrev pub invariant-labels : goal.invariant-labels
invariant-labels l = list_any (λ label. length label == 0) (labels_in l.text) ≡ list_any (λ label. length label == 0) (labels_in l.rest)

abbrev pub decreases-labels : goal.decreases-labels
decreases-labels l = length l.rest
