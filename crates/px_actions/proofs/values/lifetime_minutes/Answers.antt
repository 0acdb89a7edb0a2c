use Rattle.px_actions.proofs.RuleLemmas.{keeps_minutes, not_none}
use Rattle.px_actions.proofs.values.lifetime_minutes.Goals as goal

pub returns-in-None : goal.returns-in-None
returns-in-None c = absurd (not_none _ (keeps_minutes c.args.value.now c.requires) c.in-None.ensures.value)
