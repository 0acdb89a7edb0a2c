use Rattle.std.proofs.Common.{length, ◌-◌}
use Rattle.px_socks.specs.Replies.{Filled}
use Rattle.px_socks.proofs.replies.read_whole.Given as goal

abbrev pub invariant-loop-done : goal.invariant-loop-done
invariant-loop-done g l = Filled (g.S.LocalSource.state l.initial.source) (g.S.LocalSource.state l.source) l.done l.buf

abbrev pub decreases-loop-done : goal.decreases-loop-done
decreases-loop-done g l = length l.initial.buf - l.done
