-- No row is taken back.
use Rattle.std.proofs.Common.{◌≤◌}
use Rattle.px_leaf_rows.proofs.leaves.run.Given as goal

abbrev pub invariant-loop-place : goal.invariant-loop-place
invariant-loop-place l = l.fn.report.rows ≤ l.report.rows
