use Rattle.px_actions.proofs.RuleLemmas.{keeps_hop, not_none}
use Rattle.px_actions.proofs.values.override_hop.Goals as goal

pub returns-in-None : goal.returns-in-None
returns-in-None c = absurd (not_none _ (keeps_hop c.args.value.now c.requires) c.in-None.ensures)
