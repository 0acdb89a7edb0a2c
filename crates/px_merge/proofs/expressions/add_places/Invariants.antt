use Rattle.std.proofs.Common.{◌≡◌, ◌++◌, drop}
use Rattle.px_merge.specs.Expressions.{places_in}
use Rattle.px_merge.proofs.expressions.add_places.Given as goal

abbrev pub invariant-loop-at : goal.invariant-loop-at
invariant-loop-at l = l.places.items ++ places_in l.number l.at (drop l.at l.patterns) ≡ l.initial.places.items ++ places_in l.number 0 l.patterns
