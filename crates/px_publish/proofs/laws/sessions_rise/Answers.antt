use Rattle.px_publish.proofs.ScheduleLemmas.{rise, some_published}
use Rattle.px_publish.proofs.laws.sessions_rise.Goals as goal

pub returns-clause-rise : goal.returns-clause-rise
returns-clause-rise g c = λ first events may. rise first events may

pub returns-clause-some : goal.returns-clause-some
returns-clause-some g c = λ first events. some_published first events
