use Rattle.std.proofs.Common.{length, ◌-◌, ◌≡◌, ◌≤◌, ◌++◌, map, drop}
use Rattle.px_subst.specs.Substitutes.{substitute_items}
use Rattle.px_subst.specs.Replacers.{items_in_all}
use Rattle.px_subst.specs.declared.items.SubstituteItem.TheVariants as item
use Rattle.px_subst.proofs.items.read_items.Given as goal

abbrev pub invariant-items : goal.invariant-items
invariant-items l =
    (l.at ≤ length l.substitute)
    × (substitute_items l.substitute ≡ (items_in_all l.parts.items ++ map item.Byte l.run.items) ++ substitute_items (drop l.at l.substitute))

abbrev pub decreases-items : goal.decreases-items
decreases-items l = length l.substitute - l.at
