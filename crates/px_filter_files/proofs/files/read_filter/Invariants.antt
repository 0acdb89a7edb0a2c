use Rattle.std.proofs.Common.{◌≡◌, ◌++◌, drop}
use Rattle.px_filter_files.specs.FilterFiles.{jobs_in, skipped_in, own_lines}
use Rattle.px_filter_files.proofs.files.read_filter.Given as goal

abbrev pub invariant-loop-line : goal.invariant-loop-line
invariant-loop-line l =
    (l.jobs.items ++ jobs_in (own_lines (drop l.line-index l.below)) ≡ jobs_in (own_lines l.below))
    × (l.skipped ++ skipped_in (own_lines (drop l.line-index l.below)) ≡ l.fn.skipped ++ skipped_in (own_lines l.below))
