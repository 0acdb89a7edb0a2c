use Rattle.std.proofs.Common.{◌≡◌}
use Rattle.px_tests.proofs.pumps.feed_all.Given as goal

abbrev pub invariant-pieces : goal.invariant-pieces
invariant-pieces g l = l.running ≡ l.pump.config
