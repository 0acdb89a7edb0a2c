use Rattle.std.proofs.Common.{◌≡◌, ◌++◌, length}
use Rattle.px_merge.specs.Merged.{names_of, sections_from}
use Rattle.std.specs.Vec.Iter.{into_iter_items}
use Rattle.px_merge.proofs.building.add_files.Given as goal

abbrev pub invariant-files : goal.invariant-files
invariant-files l = record {
  names : l.names.items ++ names_of (into_iter_items l.rest) ≡ l.initial.names.items ++ names_of l.fn.files;
  sections : l.all.items ++ sections_from l.number (into_iter_items l.rest) ≡ l.initial.all.items ++ sections_from 0 l.fn.files;
}

abbrev pub decreases-files : goal.decreases-files
decreases-files l = length (into_iter_items l.rest)
