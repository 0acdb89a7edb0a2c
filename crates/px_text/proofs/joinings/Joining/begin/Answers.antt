use Rattle.px_text.proofs.StepLemmas.{first_from_empty}
use Rattle.px_text.proofs.joinings.Joining.begin.Goals as goal

pub returns-clause-first : goal.returns-clause-first
returns-clause-first c = first_from_empty c.new.result c.new-2.result c.new.ensures c.new-2.ensures
