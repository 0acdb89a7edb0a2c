use Rattle.std.proofs.Common.{◌≡◌, ◌++◌, length}
use Rattle.std.specs.Prelude.{filter}
use Rattle.std.specs.Vec.Iter.{into_iter_items}
use Rattle.px_config.specs.Sets.{may_include}
use Rattle.px_config.proofs.sets.keep_names.Given as goal

abbrev pub invariant-names : goal.invariant-names
invariant-names l = l.names.items ++ filter may_include (into_iter_items l.rest) ≡ l.initial.names.items ++ filter may_include l.fn.found

abbrev pub decreases-names : goal.decreases-names
decreases-names l = length (into_iter_items l.rest)
