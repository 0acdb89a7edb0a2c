use Rattle.px_list_patterns.proofs.DottedLemmas.{listed-matched}
use Rattle.px_list_patterns.proofs.laws.lists_are_patterns.Goals as goal

pub returns : goal.returns
returns c = listed-matched
