use Rattle.std.proofs.Common.{arith}
use Rattle.px_patterns.proofs.ReadingLemmas.{first_range_pair, first_range_single}
use Rattle.px_patterns.proofs.label_readings.first_range.Goals as goal
use Rattle.px_patterns.proofs.label_readings.first_range.Goals.{else-bytes-gt2-via-then-bytes-gt2+else-bytes-eq-DASH, else-bytes-gt2-via-else-bytes-gt2}

pub returns-then-bytes-eq-DASH-clause-range : goal.returns-then-bytes-eq-DASH-clause-range
returns-then-bytes-eq-DASH-clause-range c = first_range_pair c.args.bytes.now c.if-bytes-gt2.true c.if-bytes-eq-DASH.true

pub returns-clause-range : goal.returns-clause-range
returns-clause-range c =
    first_range_single c.args.bytes.now c.requires
    (elim c.else-bytes-gt2.branch [
      | else-bytes-gt2-via-then-bytes-gt2+else-bytes-eq-DASH w ↦ λ long. w.if-bytes-eq-DASH.false
      | else-bytes-gt2-via-else-bytes-gt2 w ↦ λ long. absurd (omega (arith, w.if-bytes-gt2.false, long))
    ])
