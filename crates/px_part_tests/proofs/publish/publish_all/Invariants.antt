use Rattle.std.proofs.Common.{◌+◌, ◌≤◌, length}
use Rattle.px_publish.specs.Published.{published}
use Rattle.px_part_tests.proofs.publish.publish_all.Given as goal

abbrev pub invariant-loop-number : goal.invariant-loop-number
invariant-loop-number g l = length (published l.publisher) ≤ l.number + 1
