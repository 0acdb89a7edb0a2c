use Rattle.std.proofs.lemmas.List.{take_rest}
use Rattle.px_pumps.proofs.HeadLemmas.{at_next, heads_bad, heads_final}
use Rattle.px_pumps.proofs.heads.read_heads.Goals as goal

pub returns-in-Refused : goal.returns-in-Refused
returns-in-Refused c =
    heads_bad c.args.left c.heads.left c.heads.from c.args.method.now c.args.bytes.now c.heads.search c.heads-test.true c.heads.invariant
    (rw (take_rest c.args.bytes.now c.heads.from) at (rw c.in-Refused.is at c.in_ok-read_head.ensures.read))

pub heads-preserved : goal.heads-preserved
heads-preserved c =
    at_next c.args.left c.heads.left c.heads.from c.in-Interim.count c.args.method.now c.args.bytes.now c.heads.search c.read_head.new.search c.heads-test.true c.heads.invariant
    (rw (take_rest c.args.bytes.now c.heads.from) at (rw c.in-Interim.is at c.in_ok-read_head.ensures.read)) (c.in_ok-read_head.ensures.anew c.in-Interim.count c.in-Interim.is)

pub returns-in-Final : goal.returns-in-Final
returns-in-Final c =
    heads_final c.args.left c.heads.left c.heads.from c.in-Final.count c.args.method.now c.args.bytes.now c.heads.search c.in-Final.head c.in-Final.rule c.heads-test.true c.heads.invariant
    (rw (take_rest c.args.bytes.now c.heads.from) at (rw c.in-Final.is at c.in_ok-read_head.ensures.read))
