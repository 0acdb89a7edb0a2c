use Rattle.px_serve.proofs.AnsweringLemmas.{answers_nothing}
use Rattle.px_serve.proofs.keeping.answer_anew.Goals as goal

pub returns-in-Err : goal.returns-in-Err
returns-in-Err g c = rw (c.nothing.ensures, c.broken.ensures) (answers_nothing _ _ _ _)
