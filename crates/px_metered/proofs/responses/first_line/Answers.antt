use Rattle.std.proofs.Common.{arith}
use Rattle.px_metered.proofs.ResponseLemmas.{line_at, line_last, line_more}
use Rattle.px_metered.proofs.responses.first_line.Goals as goal
use Rattle.px_metered.proofs.responses.first_line.Goals.{then-loop-end-test+else-bytes-end-ne13, else-loop-end-test}

pub loop-end-preserved : goal.loop-end-preserved
loop-end-preserved c = record {
  within = omega arith;
  line = line_more c.args.bytes.now c.loop-end.end c.loop-end-test.true c.if-bytes-end-ne13.true c.loop-end.invariant.line;
}

pub returns : goal.returns
returns c =
    elim c.loop-end-test.branch [
      | then-loop-end-test+else-bytes-end-ne13 w ↦ line_at c.args.bytes.now c.loop-end.end w.loop-end-test.true w.if-bytes-end-ne13.false c.loop-end.invariant.line
      | else-loop-end-test w ↦ line_last c.args.bytes.now c.loop-end.end w.loop-end-test.false c.loop-end.invariant.line
    ]
