use Rattle.std.proofs.Common.{List, ℕ, ◌++◌, ◌-◌, ◌↔◌, ◌≤◌, length}
use Rattle.px_head.specs.declared.TheConstants.{HEAD_LIMIT}
use Rattle.px_head.specs.Searches.{BeginsSearched}
use Rattle.px_pool_ends.specs.Answers.{IsAnswer}
use Rattle.px_pool_ends.proofs.followers.pass_heads.Given as goal

abbrev pub invariant-heads : goal.invariant-heads
invariant-heads l = record {
  few : l.passed ≤ 8;
  begins : BeginsSearched HEAD_LIMIT l.rest l.search;
  same : (more : List ℕ) → IsAnswer (8 - l.fn.count) (l.fn.bytes ++ more) ↔ IsAnswer (8 - l.passed) (l.rest ++ more);
}

abbrev pub decreases-heads : goal.decreases-heads
decreases-heads l = length l.rest
