use Rattle.px_answers.proofs.AgainLemmas.{again}
use Rattle.px_answers.proofs.laws.raw_again.Goals as goal

pub returns : goal.returns
returns c r rest raw plain reader read settled =
    again (record { reads = c.body_is_read.ensures; one = c.body_is_one.ensures; whole = c.raw_is_whole.ensures }) r rest _ (c.read_is_said.ensures r rest raw plain read.used reader read.after settled)
