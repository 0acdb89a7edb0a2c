use Rattle.px_answers.proofs.PassageLemmas.{passes_on}
use Rattle.px_answers.proofs.passages.pass_on.Goals as goal

pub returns-clause-after : goal.returns-clause-after
returns-clause-after c w rest put h = rw c.passing.ensures.is (passes_on w c.args.framed.now rest put c.args.piece.now _ c.args.reader _ h c.in_ok-take.ensures.takes c.passing.ensures.settled)
