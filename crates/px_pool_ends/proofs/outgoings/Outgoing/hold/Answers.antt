use Rattle.std.proofs.Common.{Some}
use Rattle.px_base.specs.declared.faults.SinkFault.TheVariants as fault
use Rattle.std.proofs.Common.{◌∙◌, sym}
use Rattle.px_pool_ends.proofs.SendLemmas.{keeps_held, keeps_sent, wrote_held, sends_none, refusal_sent, refusal_cause, refusal_none, both_values, open_held}
use Rattle.px_pool_ends.proofs.outgoings.Outgoing.hold.Goals as goal

pub invariant_of-self : goal.invariant_of-self
invariant_of-self g c =
    keeps_held _ c.in-Ok.step c.args.bytes.now c.self.inside.stopped c.self.invariant (rw (← c.self.view_is) at c.requires.holding) (rw c.as_bytes.ensures at c.in-Ok.ensures) (λ e _. both_values c.in-Ok.step.holding c.if-holding.true e) c.self.invariant.cause c.self.invariant.clean

pub returns-then-holding : goal.returns-then-holding
returns-then-holding g c =
    let keeps = keeps_held _ c.in-Ok.step c.args.bytes.now (Some fault.Mem) c.self.invariant (rw (← c.self.view_is) at c.requires.holding) (rw c.as_bytes.ensures at c.in-Ok.ensures) (λ _ e. (cc)) (λ e. (cc)) (λ e _. (cc)) in
    rw (← c.self.view_is)
    (wrote_held _ c.in-Ok.step c.args.bytes.now (g.O.LocalSink.state c.self.inside.sink) c.self.inside.at c.self.inside.stopped c.self.invariant (rw (← c.self.view_is) at c.requires.holding) (rw c.as_bytes.ensures at c.in-Ok.ensures)
    (sends_none (g.O.LocalSink.state c.self.inside.sink) c.in-Ok.step.out c.self.inside.at keeps.within))

pub invariant_of-self-2 : goal.invariant_of-self-2
invariant_of-self-2 g c =
    keeps_sent _ (g.O.LocalSink.state c.send-sent.new.sink) c.send-sent.new.at c.self.inside.faults c.last_refusal-self-inside.result
    (keeps_held _ c.in-Ok.step c.args.bytes.now (Some fault.Mem) c.self.invariant (rw (← c.self.view_is) at c.requires.holding) (rw c.as_bytes.ensures at c.in-Ok.ensures) (λ _ e. (cc)) (λ e. (cc)) (λ e _. (cc)))
    c.if-holding.false (rw c.as_bytes-2.ensures at c.send-sent.ensures.sends)
    (λ e. rw c.as_bytes-2.ensures at (refusal_sent c.self.inside.stopped c.send-sent.result _ c.send-sent.ensures.all (sym c.last_refusal-self-inside.ensures ∙ e)))
    (λ e. refusal_cause _ (g.O.LocalSink.state c.self.inside.sink) (g.O.LocalSink.state c.send-sent.new.sink) c.self.inside.stopped c.send-sent.result c.self.invariant.cause c.self.invariant.later c.send-sent.ensures.cause (sym c.last_refusal-self-inside.ensures ∙ e))
    (λ e z. refusal_none _ c.self.inside.faults (g.O.LocalSink.state c.self.inside.sink) (g.O.LocalSink.state c.send-sent.new.sink) c.self.inside.stopped c.send-sent.result c.self.invariant.clean c.send-sent.ensures.cause (sym c.last_refusal-self-inside.ensures ∙ e) z)
    (open_held _ c.self.invariant (rw (← c.self.view_is) at c.requires.holding))

pub returns : goal.returns
returns g c =
    rw (← c.self.view_is)
    (wrote_held _ c.in-Ok.step c.args.bytes.now (g.O.LocalSink.state c.send-sent.new.sink) c.send-sent.new.at c.last_refusal-self-inside.result c.self.invariant (rw (← c.self.view_is) at c.requires.holding) (rw c.as_bytes.ensures at c.in-Ok.ensures)
    (rw c.as_bytes-2.ensures at c.send-sent.ensures.sends))
