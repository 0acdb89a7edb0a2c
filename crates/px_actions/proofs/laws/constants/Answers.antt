use Rattle.std.proofs.Common.{refl}
use Rattle.px_actions.specs.Kinds.{entry_of}
use Rattle.px_actions.proofs.Table.{kinds_place}
use Rattle.px_actions.proofs.laws.constants.Goals as goal

pub returns-clause-places : goal.returns-clause-places
returns-clause-places c = kinds_place

pub returns-clause-order : goal.returns-clause-order
unfolding entry_of
returns-clause-order c = refl
