use Rattle.std.proofs.Common.{◌≡◌, length}
use Rattle.px_patterns.specs.Hosts.{labels_in, labels_of}
use Rattle.px_patterns.proofs.ReadingLemmas.{with_front}
use Rattle.px_patterns.proofs.host_readings.read_labels.Given as goal

abbrev pub invariant-reads : goal.invariant-reads
invariant-reads l = labels_of (labels_in l.text) ≡ with_front l.labels (labels_of (labels_in l.rest))

abbrev pub decreases-reads : goal.decreases-reads
decreases-reads l = length l.rest
