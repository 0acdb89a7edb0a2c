use Rattle.std.proofs.Common.{◌∙◌, ℕ, ap, refl, subst, Err}
use Rattle.px_base.specs.Causes.{Rose}
use Rattle.px_socks.specs.declared.handshakes.Refusal.{Refusal}
use Rattle.px_socks.proofs.ReplyLemmas.{took_accepted, unfilled, not_some}
use Rattle.px_socks.proofs.MessageLemmas.{some_sent, both_sent, due_greeting, due_front, due_both}
use Rattle.px_socks.proofs.handshakes.handshake.Goals as goal

pub returns-then-not-chosen-clause-due : goal.returns-then-not-chosen-clause-due
returns-then-not-chosen-clause-due g c = λ t u.
    due_greeting (g.S.LocalSource.state c.args.link_in.now) (g.S.LocalSource.state c.read_method.new.source) (g.O.LocalSink.state c.args.link_out.now) (g.O.LocalSink.state c.send.new.link_out) _ _
    (c.in-Ok-read_method.ensures.unselected t (unfilled _ _ refl c.if-not-chosen.true)) (c.in-Ok.ensures.sent u)

pub returns-in_default-clause-due : goal.returns-in_default-clause-due
returns-in_default-clause-due g c = λ t u.
    due_greeting (g.S.LocalSource.state c.args.link_in.now) (g.S.LocalSource.state c.read_method.new.source) (g.O.LocalSink.state c.args.link_out.now) (g.O.LocalSink.state c.send.new.link_out) _ _
    (c.read_method.ensures.unselected t (λ e. absurd (cc))) (c.in-Ok.ensures.sent u)

pub returns-in-Err-send-clause-due : goal.returns-in-Err-send-clause-due
returns-in-Err-send-clause-due g c = λ t u.
    due_front (g.S.LocalSource.state c.args.link_in.now) (g.S.LocalSource.state c.read_method.new.source) (g.O.LocalSink.state c.args.link_out.now) (g.O.LocalSink.state c.send-2.new.link_out) _ _
    (c.in-Ok-read_method.ensures.chosen t c.if-not-chosen.false)
    (some_sent _ _ _ _ c.requires.whole (c.in-Ok.ensures.sent u) (c.in-Err-send.ensures.sent (c.in-Ok.ensures.goes_on.tells_same ∙ u)))
    (λ e. let P = λ (n : ℕ). Rose n (g.O.LocalSink.state c.send-2.new.link_out).faults in subst P c.in-Ok.ensures.ok (c.in-Err-send.ensures.refused (ap (λ (r : Refusal). Err r) e)))

pub returns-in-Ok-None-clause-due : goal.returns-in-Ok-None-clause-due
returns-in-Ok-None-clause-due g c = λ t u.
    due_both (g.S.LocalSource.state c.args.link_in.now) (g.S.LocalSource.state c.read_method.new.source) (g.S.LocalSource.state c.read_reply.new.source)
    (g.O.LocalSink.state c.args.link_out.now) (g.O.LocalSink.state c.send-2.new.link_out) _ _
    (c.in-Ok-read_method.ensures.chosen t c.if-not-chosen.false) (c.in-Ok-None.ensures.front (c.in-Ok-read_method.ensures.goes_on.tells_same ∙ t) (not_some _ _ refl c.in-Ok-None.field-0-is))
    (both_sent _ _ _ _ c.requires.whole (c.in-Ok.ensures.sent u) (c.in-Ok-send.ensures.sent (c.in-Ok.ensures.goes_on.tells_same ∙ u)))

pub returns-in-Err-read_reply-clause-due : goal.returns-in-Err-read_reply-clause-due
returns-in-Err-read_reply-clause-due g c = λ t u.
    due_both (g.S.LocalSource.state c.args.link_in.now) (g.S.LocalSource.state c.read_method.new.source) (g.S.LocalSource.state c.read_reply.new.source)
    (g.O.LocalSink.state c.args.link_out.now) (g.O.LocalSink.state c.send-2.new.link_out) _ _
    (c.in-Ok-read_method.ensures.chosen t c.if-not-chosen.false) (c.in-Err-read_reply.ensures.front (c.in-Ok-read_method.ensures.goes_on.tells_same ∙ t) (λ n e. absurd (cc)))
    (both_sent _ _ _ _ c.requires.whole (c.in-Ok.ensures.sent u) (c.in-Ok-send.ensures.sent (c.in-Ok.ensures.goes_on.tells_same ∙ u)))

pub returns-in-Ok-Some-clause-accepted : goal.returns-in-Ok-Some-clause-accepted
returns-in-Ok-Some-clause-accepted g c = λ t.
    took_accepted _ _ _ c.in-Ok-Some.count (c.in-Ok-read_method.ensures.chosen t c.if-not-chosen.false)
    (rw c.in-Ok-Some.field-0-is at (c.in-Ok-Some.ensures.bytes (c.in-Ok-read_method.ensures.goes_on.tells_same ∙ t)))
