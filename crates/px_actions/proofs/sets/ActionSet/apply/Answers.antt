use Rattle.px_actions.proofs.SetLemmas.{sound_by}
use Rattle.px_actions.proofs.sets.ActionSet.apply.Goals as goal

pub invariant_of-self : goal.invariant_of-self
invariant_of-self c =
    sound_by c.self.inside.table c.change.new.self c.args.update.now.kind c.args.update.now.change c.change.result c.self.invariant c.args.update.now.kept c.change.ensures.ok c.change.ensures.err
