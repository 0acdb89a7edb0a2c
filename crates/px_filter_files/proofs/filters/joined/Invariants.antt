use Rattle.std.proofs.Common.{◌≡◌, ◌++◌, length}
use Rattle.px_filter_files.specs.FilterFiles.{filters_of_all}
use Rattle.px_filter_files.proofs.filters.joined.Given as goal

abbrev pub invariant-files : goal.invariant-files
invariant-files l = l.joined.items ++ filters_of_all l.rest.items ≡ filters_of_all l.fn.files.items

abbrev pub decreases-files : goal.decreases-files
decreases-files l = length l.rest.items
