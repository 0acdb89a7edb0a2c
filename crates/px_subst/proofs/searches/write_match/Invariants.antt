use Rattle.std.proofs.Common.{◌≡◌, ◌++◌, take, flat_map}
use Rattle.px_subst.specs.Replacers.{part_bytes}
use Rattle.px_subst.proofs.searches.write_match.Given as goal

abbrev pub invariant-loop-part : goal.invariant-loop-part
invariant-loop-part l =
    l.out.items ≡ l.fn.out.items ++ (l.gap ++ flat_map (part_bytes l.text l.places) (take l.part-index l.parts))
