use Rattle.px_subst.proofs.Alike.{unread_run}
use Rattle.px_subst.proofs.worded.Made.run.Goals as goal

pub returns-in-None-clause-value : goal.returns-in-None-clause-value
returns-in-None-clause-value c = unread_run _ _ _ _ (rw c.in-None.is at c.requires)
