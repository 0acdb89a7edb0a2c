use Rattle.px_config.proofs.TableLemmas.{found}
use Rattle.px_config.proofs.laws.constants.Goals as goal

pub returns-clause-directives : goal.returns-clause-directives
returns-clause-directives c = found
