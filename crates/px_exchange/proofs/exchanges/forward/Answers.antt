use Rattle.std.proofs.Common.{◌∙◌}
use Rattle.px_judging.specs.declared.judgements.Judgement.TheVariants as judgement
use Rattle.px_pumps.specs.Returning.{IsAnswerEnding}
use Rattle.px_exchange.specs.Replies.{page_due}
use Rattle.px_exchange.specs.Rows.{task_of}
use Rattle.px_exchange.proofs.ReplyLemmas.{of_kind, page_or_broken}
use Rattle.px_exchange.proofs.StandingLemmas.{page_returned}
use Rattle.px_exchange.proofs.exchanges.forward.Goals as goal

pub returns-in-Page-clause-forwards : goal.returns-in-Page-clause-forwards
returns-in-Page-clause-forwards g c s u t failed =
    let talked = c.dial_and_send.ensures in
    let plan = c.args.plan in
    page_returned failed failed (task_of c.args.running.now (judgement.Forward plan)) _ (g.D.Dialer.state c.args.dialer.now) (g.D.Dialer.state c.dial_and_send.new.dialer)
    (g.O.Sink.state c.args.client_out.now).taken _ _ c.in-Page.page c.return_page.result
    (rw c.in-Page.is at (talked.talks s u t (page_due c.args.running.now plan.url plan.route plan.bodiless) failed))
    (rw c.config-config.ensures at (c.return_page.ensures.returns (talked.out_goes_on.tells_same ∙ u)))

pub returns-clause-forwards : goal.returns-clause-forwards
returns-clause-forwards g c s u t failed =
    let plan = c.args.plan in
    rw c.in-Ended.is at (c.dial_and_send.ensures.talks s u t (page_due c.args.running.now plan.url plan.route plan.bodiless) failed)

pub returns-in-Page-clause-ending : goal.returns-in-Page-clause-ending
returns-in-Page-clause-ending g c = page_or_broken IsAnswerEnding _ c.in-Page.page tt c.return_page.ensures.ending

pub returns-clause-ending : goal.returns-clause-ending
returns-clause-ending g c = of_kind IsAnswerEnding _ (rw c.in-Ended.is at c.dial_and_send.ensures.page_cause)
