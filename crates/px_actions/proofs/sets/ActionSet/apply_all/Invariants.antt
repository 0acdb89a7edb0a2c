use Rattle.std.proofs.Common.{◌≡◌, take}
use Rattle.px_actions.specs.Sets.{updated_all}
use Rattle.px_actions.proofs.sets.ActionSet.apply_all.Given as goal

abbrev pub invariant-loop-update : goal.invariant-loop-update
invariant-loop-update l = l.self ≡ updated_all l.initial.self (take l.update-index l.updates)
