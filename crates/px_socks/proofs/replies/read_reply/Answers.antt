use Rattle.std.proofs.Common.{arith, ◌∙◌, refl}
use Rattle.px_socks.proofs.ReplyLemmas.{took_reply, few_taken, cut_taken, unfilled}
use Rattle.px_socks.proofs.replies.read_reply.Goals as goal

pub returns-clause-bytes : goal.returns-clause-bytes
returns-clause-bytes g c = λ t.
    took_reply c.read_whole.new.buf (g.S.LocalSource.state c.args.source.now).left (g.S.LocalSource.state c.read_whole.new.source).left (g.S.LocalSource.state c.read_past.new.source).left
    c.in-Some.more (omega arith) c.in-Some.ensures.rest (c.in_ok-read_whole.ensures.whole t c.if-not-branch.false)
    (c.in_ok-read_past.ensures.whole (c.in_ok-read_whole.ensures.goes_on.tells_same ∙ t) c.if-not-branch-2.false)

pub returns-in_err-read_whole-clause-front : goal.returns-in_err-read_whole-clause-front
returns-in_err-read_whole-clause-front g c = λ t none. few_taken _ _ _ (omega arith) (c.in_err-read_whole.ensures.fewer t (λ e. absurd (cc)))

pub returns-then-not-branch-clause-front : goal.returns-then-not-branch-clause-front
returns-then-not-branch-clause-front g c = λ t none. few_taken _ _ _ (omega arith) (c.in_ok-read_whole.ensures.fewer t (unfilled _ _ refl c.if-not-branch.true))

pub returns-clause-front : goal.returns-clause-front
returns-clause-front g c = λ t none. absurd (none _ refl)

pub returns-in_err-read_past-clause-front : goal.returns-in_err-read_past-clause-front
returns-in_err-read_past-clause-front g c = λ t none.
    cut_taken c.read_whole.new.buf _ _ _ c.in-Some.more (omega arith) c.in-Some.ensures.rest (c.in_ok-read_whole.ensures.whole t c.if-not-branch.false)
    (c.in_err-read_past.ensures.fewer (c.in_ok-read_whole.ensures.goes_on.tells_same ∙ t) (λ e. absurd (cc)))

pub returns-then-not-branch-2-clause-front : goal.returns-then-not-branch-2-clause-front
returns-then-not-branch-2-clause-front g c = λ t none.
    cut_taken c.read_whole.new.buf _ _ _ c.in-Some.more (omega arith) c.in-Some.ensures.rest (c.in_ok-read_whole.ensures.whole t c.if-not-branch.false)
    (c.in_ok-read_past.ensures.fewer (c.in_ok-read_whole.ensures.goes_on.tells_same ∙ t) (unfilled _ _ refl c.if-not-branch-2.true))
