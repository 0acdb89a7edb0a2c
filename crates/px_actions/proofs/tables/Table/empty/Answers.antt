use Rattle.std.proofs.Common.{refl}
use Rattle.px_actions.specs.Kinds.{entry_of}
use Rattle.px_actions.specs.Sets.{empty_set}
use Rattle.px_actions.proofs.tables.Table.empty.Goals as goal

pub returns : goal.returns
unfolding empty_set entry_of
returns c = rw c.empty.ensures refl
