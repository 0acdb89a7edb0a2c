use Rattle.px_socks.proofs.ComingLemmas.{none_length, took_length}
use Rattle.px_socks.proofs.laws.accepted_bytes_are_counted.Goals as goal

pub returns-clause-some : goal.returns-clause-some
returns-clause-some c = took_length

pub returns-clause-none : goal.returns-clause-none
returns-clause-none c = none_length
