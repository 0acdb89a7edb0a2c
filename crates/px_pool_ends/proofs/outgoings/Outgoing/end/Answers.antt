use Rattle.std.proofs.Common.{◌∙◌, sym}
use Rattle.px_pool_ends.proofs.SendLemmas.{keeps_ended, refusal_sent, refusal_cause, refusal_none}
use Rattle.px_pool_ends.proofs.outgoings.Outgoing.end.Goals as goal

pub invariant_of-self : goal.invariant_of-self
invariant_of-self g c =
    keeps_ended _ _ _ _ c.self.invariant c.if-self.false (rw c.as_bytes.ensures at c.send_last-sent.ensures.ends)
    (λ e. rw c.as_bytes.ensures at (refusal_sent c.self.inside.stopped c.send_last-sent.result _ c.send_last-sent.ensures.all (sym c.last_refusal-self-inside.ensures ∙ e)))
    (λ e. refusal_cause _ (g.O.LocalSink.state c.self.inside.sink) (g.O.LocalSink.state c.send_last-sent.new.sink) c.self.inside.stopped c.send_last-sent.result c.self.invariant.cause c.self.invariant.later c.send_last-sent.ensures.cause (sym c.last_refusal-self-inside.ensures ∙ e))
    (λ e z. refusal_none _ c.self.inside.faults (g.O.LocalSink.state c.self.inside.sink) (g.O.LocalSink.state c.send_last-sent.new.sink) c.self.inside.stopped c.send_last-sent.result c.self.invariant.clean c.send_last-sent.ensures.cause (sym c.last_refusal-self-inside.ensures ∙ e) z)
