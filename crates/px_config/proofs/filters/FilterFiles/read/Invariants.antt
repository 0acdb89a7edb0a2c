use Rattle.std.proofs.Common.{◌≡◌, [], length, option_copied}
use Rattle.px_config.specs.Filters.{filter_files}
use Rattle.px_config.proofs.filters.FilterFiles.read.Given as goal

abbrev pub invariant-names : goal.invariant-names
invariant-names l = filter_files l.items (option_copied l.folder) (record { files = []; notes = l.fn.notes }) l.names ≡ filter_files l.items (option_copied l.folder) l.files l.rest

abbrev pub decreases-names : goal.decreases-names
decreases-names l = length l.rest
