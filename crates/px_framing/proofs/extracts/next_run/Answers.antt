use Rattle.std.proofs.Common.{ap}
use Rattle.px_framing.specs.Reading.{is_last}
use Rattle.px_framing.proofs.ExtractLemmas.{none-behind}
use Rattle.px_framing.proofs.extracts.next_run.Goals as goal

pub returns-in-Done-clause-divides : goal.returns-in-Done-clause-divides
returns-in-Done-clause-divides c data_bytes w = none-behind c.args.before c.args.bytes.now data_bytes (ap is_last c.in-Done.is) c.requires.some w

pub returns-in-Wrong-clause-divides : goal.returns-in-Wrong-clause-divides
returns-in-Wrong-clause-divides c data_bytes w = none-behind c.args.before c.args.bytes.now data_bytes (ap is_last c.in-Wrong.is) c.requires.some w
