use Rattle.std.proofs.Common.{◌≡◌, ◌+◌, length}
use Rattle.std.specs.Prelude.{sum_by}
use Rattle.px_filter_files.specs.declared.files.FilterFile.{FilterFile}
use Rattle.px_config.proofs.spelling.filter_count.Given as goal

abbrev pub invariant-files : goal.invariant-files
invariant-files l = sum_by (λ (file : FilterFile). length file.filters) l.files ≡ l.count + sum_by (λ (file : FilterFile). length file.filters) l.rest

abbrev pub decreases-files : goal.decreases-files
decreases-files l = length l.rest
