use Rattle.std.proofs.Common.{◌≡◌, length}
use Rattle.px_config.specs.Pages.{all_fit}
use Rattle.px_config.proofs.templates.check_sizes.Given as goal

abbrev pub invariant-names : goal.invariant-names
invariant-names l = all_fit l.items l.folder l.names ≡ all_fit l.items l.folder l.rest

abbrev pub decreases-names : goal.decreases-names
decreases-names l = length l.rest
