use Rattle.px_decide.proofs.DialNameLemmas.{is_read}
use Rattle.px_decide.proofs.laws.dial_names_are_read.Goals as goal

pub returns : goal.returns
returns c = is_read c.printed_names_are_read.ensures
