use Rattle.px_actions.proofs.RuleLemmas.{field_sent, no_field}
use Rattle.px_actions.proofs.values.added_field.Goals as goal

pub returns-in-Some-clause-sent : goal.returns-in-Some-clause-sent
returns-in-Some-clause-sent c = field_sent c.args.value.now _ c.requires c.in-Some.ensures

pub returns-in-None-clause-field : goal.returns-in-None-clause-field
returns-in-None-clause-field c = absurd (no_field c.args.value.now c.requires c.in-None.ensures)

pub returns-in-None-clause-sent : goal.returns-in-None-clause-sent
returns-in-None-clause-sent c = absurd (no_field c.args.value.now c.requires c.in-None.ensures)
