use Rattle.std.proofs.Common.{◌≤◌, ◌-◌, length}
use Rattle.px_merge.proofs.expressions.first_from.Given as goal

abbrev pub invariant-places : goal.invariant-places
invariant-places l = l.to ≤ length l.places

abbrev pub decreases-places : goal.decreases-places
decreases-places l = l.to - l.from
