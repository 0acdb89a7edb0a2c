use Rattle.px_pumps.specs.Heads.{AtHead}
use Rattle.px_pumps.proofs.heads.read_heads.Given as goal

abbrev pub invariant-heads : goal.invariant-heads
invariant-heads l = AtHead l.fn.left l.method l.bytes l.left l.from l.search

abbrev pub decreases-heads : goal.decreases-heads
decreases-heads l = l.left
