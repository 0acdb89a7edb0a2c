use Rattle.px_publish.proofs.ScheduleLemmas.{none_older}
use Rattle.px_publish.proofs.laws.later_sessions_use_none_older.Goals as goal

pub returns : goal.returns
returns g c = λ first before events may s number has uses. none_older first before events may s number has uses
