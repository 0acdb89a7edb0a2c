use Rattle.px_actions.proofs.Table.{kind_named-name}
use Rattle.px_actions.proofs.kinds.Kind.name.Goals as goal

pub returns-clause-found : goal.returns-clause-found
returns-clause-found c = rw c.spelling.ensures (kind_named-name c.args.self)
