use Rattle.std.proofs.Common.{◌∙◌, sym}
use Rattle.px_patterns.proofs.ReadingLemmas.{ranges_done}
use Rattle.px_patterns.proofs.label_readings.read_ranges.Goals as goal

pub returns-clause-ranges : goal.returns-clause-ranges
returns-clause-ranges c = ranges_done c.args.bytes.now c.reads.rest.now c.reads.ranges c.reads.invariant (sym c.is_empty.ensures ∙ c.reads-test.false)
