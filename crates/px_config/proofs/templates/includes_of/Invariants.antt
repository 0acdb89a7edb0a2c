use Rattle.std.proofs.Common.{◌≡◌, ◌++◌, length}
use Rattle.px_config.specs.Pages.{includes_of}
use Rattle.px_config.proofs.templates.includes_of.Given as goal

abbrev pub invariant-names : goal.invariant-names
invariant-names l = includes_of l.items l.folder l.names ≡ l.includes.items ++ includes_of l.items l.folder l.rest

abbrev pub decreases-names : goal.decreases-names
decreases-names l = length l.rest
