use Rattle.std.proofs.Common.{◌≡◌, length}
use Rattle.px_config.specs.Sets.{content_in}
use Rattle.px_config.proofs.sets.find.Given as goal

abbrev pub invariant-items : goal.invariant-items
invariant-items l = content_in l.items l.name ≡ content_in l.rest l.name

abbrev pub decreases-items : goal.decreases-items
decreases-items l = length l.rest
