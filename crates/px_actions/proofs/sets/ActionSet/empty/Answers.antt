use Rattle.px_actions.proofs.SetLemmas.{empty_set-sound}
use Rattle.px_actions.proofs.sets.ActionSet.empty.Goals as goal

pub invariant_of-result : goal.invariant_of-result
invariant_of-result c = rw c.empty.ensures empty_set-sound
