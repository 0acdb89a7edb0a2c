use Rattle.std.proofs.Common.{◌-◌, ◌++◌, ◌≡◌, [], refl, sym, drop, take, arith}
use Rattle.std.proofs.lemmas.List.{take_rest}
use Rattle.px_head.specs.Blocks.{head_end}
use Rattle.px_head.specs.declared.TheConstants.{HEAD_LIMIT}
use Rattle.px_head.specs.declared.blocks.HeadEnd.TheVariants.{At, Over}
use Rattle.px_pool_ends.specs.declared.judges.Judged.TheVariants as judged
use Rattle.px_pool_ends.specs.Answers.{IsInterim, IsFinalHead, Judges}
use Rattle.px_pool_ends.proofs.AnswerLemmas.{never_over, never_judged, ninth, one_passed, both, body_begins, body_read}
use Rattle.px_pool_ends.proofs.followers.pass_heads.Goals as goal

pub returns-in-Over-clause-due : goal.returns-in-Over-clause-due
returns-in-Over-clause-due c =
    let is : head_end HEAD_LIMIT c.heads.rest ≡ Over = sym (rw c.as_bytes.ensures at c.in-Over.ensures.value) in
    λ _ more. (λ a. never_over (8 - c.heads.passed) c.heads.rest more is ((c.heads.invariant.same more).0 a), λ x. absurd x)

pub returns-then-passed-ge-INTERIM_LIMIT-clause-due : goal.returns-then-passed-ge-INTERIM_LIMIT-clause-due
returns-then-passed-ge-INTERIM_LIMIT-clause-due c =
    let is : IsInterim (take c.in-At.len c.heads.rest) = rw c.as_bytes-in-heads.ensures at c.in-Interim.ensures in
    λ _ more. (λ a. ninth c.heads.passed c.in-At.len c.heads.rest more c.if-passed-ge-INTERIM_LIMIT.true is ((c.heads.invariant.same more).0 a), λ x. absurd x)

pub heads-preserved : goal.heads-preserved
heads-preserved c =
    let is : IsInterim (take c.in-At.len c.heads.rest) = rw c.as_bytes-in-heads.ensures at c.in-Interim.ensures in record {
      few = omega (arith, c.if-passed-ge-INTERIM_LIMIT.false);
      begins = record { front = []; more = c.in-Ok.more; is = refl; searched = c.in-At.ensures.searched HEAD_LIMIT };
      same = λ more. rw (c.in-Ok.ensures, take_rest, c.as_bytes-in-Interim.ensures) (both (c.heads.invariant.same more) (one_passed c.heads.passed c.in-At.len c.heads.rest more c.if-passed-ge-INTERIM_LIMIT.false is));
    }

pub returns-in-Final-clause-due : goal.returns-in-Final-clause-due
returns-in-Final-clause-due c lost more =
    let is : IsFinalHead (take c.in-At.len c.heads.rest) c.in-Final.rule = rw c.as_bytes-in-heads.ensures at c.in-Final.ensures in
    let due = rw (take_rest, c.as_bytes-in-Final.ensures, c.new-reader.ensures.first) at (c.hear_body.ensures.due lost more) in
    both (c.heads.invariant.same more) (both (body_begins (8 - c.heads.passed) c.in-At.len c.heads.rest more c.in-Final.rule is (body_read c.in-Final.rule (drop c.in-At.len c.heads.rest ++ more))) due)

pub returns-in-Never-clause-due : goal.returns-in-Never-clause-due
returns-in-Never-clause-due c =
    let at : head_end HEAD_LIMIT c.heads.rest ≡ At c.in-At.len = sym (rw c.as_bytes.ensures at c.in-At.ensures.value) in
    let is : Judges (take c.in-At.len c.heads.rest) judged.Never = rw c.as_bytes-in-heads.ensures at c.in-Never.ensures in
    λ _ more. (λ a. never_judged (8 - c.heads.passed) c.heads.rest more c.in-At.len at is.0 is.1 ((c.heads.invariant.same more).0 a), λ x. absurd x)
