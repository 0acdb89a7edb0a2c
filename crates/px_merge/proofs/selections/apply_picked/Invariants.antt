use Rattle.std.proofs.Common.{length}
use Rattle.px_merge.proofs.FrontLemmas.{HasDone}
use Rattle.px_merge.specs.Merging.{updates_in}
use Rattle.px_merge.specs.Selections.{picked}
use Rattle.px_merge.proofs.selections.apply_picked.Given as goal

abbrev pub invariant-numbers : goal.invariant-numbers
invariant-numbers l = HasDone l.initial.set l.set (updates_in (picked l.sections l.numbers)) (updates_in (picked l.sections l.rest))

abbrev pub decreases-numbers : goal.decreases-numbers
decreases-numbers l = length l.rest
