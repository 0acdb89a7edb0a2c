use Rattle.std.proofs.Common.{◌≡◌, length}
use Rattle.std.specs.Prelude.{None}
use Rattle.px_patterns.specs.Globs.{items_from}
use Rattle.px_patterns.proofs.ReadingLemmas.{with_front}
use Rattle.px_patterns.proofs.label_readings.read_items.Given as goal

abbrev pub invariant-reads : goal.invariant-reads
invariant-reads l = items_from None l.text ≡ with_front l.items (items_from None l.rest)

abbrev pub decreases-reads : goal.decreases-reads
decreases-reads l = length l.rest
