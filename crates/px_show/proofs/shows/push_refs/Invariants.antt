use Rattle.std.proofs.Common.{◌≡◌, ◌++◌, take}
use Rattle.px_show.specs.Showing.{ref_lines}
use Rattle.px_show.proofs.shows.push_refs.Given as goal

abbrev pub invariant-refs : goal.invariant-refs
invariant-refs l = l.out ≡ l.initial.out ++ ref_lines l.sections.names (take l.place-index l.refs)
