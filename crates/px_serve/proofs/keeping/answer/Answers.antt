use Rattle.px_serve.proofs.AnsweringLemmas.{answers_nothing}
use Rattle.px_serve.proofs.keeping.answer.Goals as goal

pub returns-in-None-clause-answers : goal.returns-in-None-clause-answers
returns-in-None-clause-answers g c = rw (c.nothing.ensures, c.broken.ensures, c.in-None.is) (answers_nothing _ _ _ _)
