use Rattle.std.proofs.Common.{◌≡◌, ◌++◌, take}
use Rattle.px_merge.specs.Merged.{list_names}
use Rattle.px_show.specs.Showing.{list_ref_lines}
use Rattle.px_show.proofs.shows.push_list_refs.Given as goal

abbrev pub invariant-refs : goal.invariant-refs
invariant-refs l = l.out ≡ l.initial.out ++ list_ref_lines (list_names l.sections.lists) (take l.place-index l.refs)
