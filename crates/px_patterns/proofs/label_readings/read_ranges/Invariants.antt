use Rattle.std.proofs.Common.{◌≡◌, length}
use Rattle.px_patterns.specs.Globs.{class_ranges}
use Rattle.px_patterns.proofs.ReadingLemmas.{with_front}
use Rattle.px_patterns.proofs.label_readings.read_ranges.Given as goal

abbrev pub invariant-reads : goal.invariant-reads
invariant-reads l = class_ranges l.bytes ≡ with_front l.ranges (class_ranges l.rest)

abbrev pub decreases-reads : goal.decreases-reads
decreases-reads l = length l.rest
