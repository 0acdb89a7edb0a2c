use Rattle.std.proofs.Common.{arith}
use Rattle.std.proofs.lemmas.Grind.{common_steps}
use Rattle.px_socks.proofs.ReplyLemmas.{filled_more}
use Rattle.px_socks.proofs.replies.read_whole.Goals as goal

pub loop-done-preserved : goal.loop-done-preserved
loop-done-preserved g c =
    filled_more (g.S.LocalSource.state c.args.source.now) (g.S.LocalSource.state c.loop-done.source) (g.S.LocalSource.state c.read.new.self) c.loop-done.done c.in_ok-count.count c.loop-done.buf c.read.new.buf
    c.loop-done.invariant c.in_ok-count.ensures.bytes (grind (arith, common_steps)) c.in_ok-count.ensures.cause.ok c.in_ok-count.ensures.goes_on
