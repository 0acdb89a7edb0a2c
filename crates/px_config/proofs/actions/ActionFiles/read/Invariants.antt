use Rattle.std.proofs.Common.{◌≡◌, length, map, option_copied}
use Rattle.px_config.specs.Actions.{action_files, no_actions, seen_actions}
use Rattle.px_config.specs.Listings.{seen_list}
use Rattle.px_config.proofs.actions.ActionFiles.read.Given as goal

abbrev pub invariant-names : goal.invariant-names
invariant-names l = action_files l.items (option_copied l.folder) l.limit (no_actions (map seen_list l.fn.lists)) l.names ≡ action_files l.items (option_copied l.folder) l.limit (seen_actions l.files) l.rest

abbrev pub decreases-names : goal.decreases-names
decreases-names l = length l.rest
