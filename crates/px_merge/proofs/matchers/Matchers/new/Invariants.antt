use Rattle.std.proofs.Common.{◌≡◌, map, take}
use Rattle.px_merge.specs.Expressions.{kept_at}
use Rattle.px_merge.proofs.matchers.Matchers.new.Given as goal

abbrev pub invariant-places : goal.invariant-places
invariant-places l = l.kept.items ≡ map (kept_at l.sections) (take l.place-index l.places)
