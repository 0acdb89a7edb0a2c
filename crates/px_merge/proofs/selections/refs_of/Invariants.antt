use Rattle.std.proofs.Common.{◌≡◌, ◌++◌, map, length}
use Rattle.px_merge.specs.Merging.{ref_of}
use Rattle.px_merge.specs.Selections.{picked}
use Rattle.px_merge.proofs.selections.refs_of.Given as goal

abbrev pub invariant-numbers : goal.invariant-numbers
invariant-numbers l = l.refs.items ++ map ref_of (picked l.sections l.rest) ≡ map ref_of (picked l.sections l.numbers)

abbrev pub decreases-numbers : goal.decreases-numbers
decreases-numbers l = length l.rest
