use Rattle.std.proofs.Common.{ap, sym, ◌∙◌}
use Rattle.px_socks.specs.Ends.{has_failed}
use Rattle.px_socks.proofs.ends.SocksSourceRests.has_ended.Goals as goal

pub invariant_of-self : goal.invariant_of-self
invariant_of-self g c = c.self.invariant ∙ ap has_failed (sym c.is_spent.ensures.faults_same)
