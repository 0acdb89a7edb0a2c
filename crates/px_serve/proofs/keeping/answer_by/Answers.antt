use Rattle.px_serve.proofs.AnsweringLemmas.{answers_judged, answers_nothing}
use Rattle.px_serve.proofs.keeping.answer_by.Goals as goal

pub returns-in-Ok-clause-answers : goal.returns-in-Ok-clause-answers
returns-in-Ok-clause-answers g c =
    let done = c.exchange_measured.ensures in
    rw (← c.ends.view_is) (answers_judged _ _ _ _ _ _ _ _ _ _ _ c.judge.ensures.same c.in-Ok.ensures.value done.exchanges done.measured)

pub returns-in-Err-clause-answers : goal.returns-in-Err-clause-answers
returns-in-Err-clause-answers g c = rw (c.nothing.ensures, c.broken.ensures) (answers_nothing _ _ _ _)
