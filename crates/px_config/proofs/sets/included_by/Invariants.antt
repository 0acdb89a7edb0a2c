use Rattle.std.proofs.Common.{◌≡◌, ◌++◌, length}
use Rattle.px_config.specs.Sets.{included_by}
use Rattle.px_config.proofs.sets.included_by.Given as goal

abbrev pub invariant-pages : goal.invariant-pages
invariant-pages l = included_by l.items l.folder l.pages ≡ l.names.items ++ included_by l.items l.folder l.rest

abbrev pub decreases-pages : goal.decreases-pages
decreases-pages l = length l.rest
