use Rattle.std.proofs.Common.{◌≡◌, ◌++◌, map, length}
use Rattle.px_merge.specs.Merged.{placed}
use Rattle.std.specs.Vec.Iter.{into_iter_items}
use Rattle.px_merge.proofs.building.add_sections.Given as goal

abbrev pub invariant-sections : goal.invariant-sections
invariant-sections l = l.all.items ++ map (placed l.number) (into_iter_items l.rest) ≡ l.initial.all.items ++ map (placed l.number) l.fn.sections

abbrev pub decreases-sections : goal.decreases-sections
decreases-sections l = length (into_iter_items l.rest)
