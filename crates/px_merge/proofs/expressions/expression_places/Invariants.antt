use Rattle.std.proofs.Common.{◌≡◌, ◌++◌, drop}
use Rattle.px_merge.specs.Expressions.{expression_places}
use Rattle.px_merge.proofs.expressions.expression_places.Given as goal

abbrev pub invariant-loop-number : goal.invariant-loop-number
invariant-loop-number l = l.places.items ++ expression_places l.number (drop l.number l.sections) ≡ expression_places 0 l.sections
