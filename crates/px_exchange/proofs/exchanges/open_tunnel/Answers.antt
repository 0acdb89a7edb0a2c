use Rattle.std.proofs.Common.{◌∙◌, false, inr, refl}
use Rattle.px_judging.specs.declared.judgements.Judgement.TheVariants as judgement
use Rattle.px_exchange.specs.Causes.{IsTunnelEnding}
use Rattle.px_exchange.specs.Replies.{page_due}
use Rattle.px_exchange.specs.Rows.{task_of}
use Rattle.px_exchange.proofs.ReplyLemmas.{of_kind, page_or_broken}
use Rattle.px_exchange.proofs.StandingLemmas.{tunnel_page_returned}
use Rattle.px_exchange.proofs.exchanges.open_tunnel.Goals as goal

pub returns-in-Page-clause-tunnels : goal.returns-in-Page-clause-tunnels
returns-in-Page-clause-tunnels g c s u t =
    let talked = c.dial_tunnel.ensures in
    let plan = c.args.plan.now in
    tunnel_page_returned (task_of c.args.config.now (judgement.Tunnel plan)) _ (g.D.Dialer.state c.args.dialer.now) (g.D.Dialer.state c.dial_tunnel.new.dialer)
    (g.O.Sink.state c.args.client_out.now) (g.O.Sink.state c.dial_tunnel.new.client_out) (g.O.Sink.state c.return_page.new.client_out) c.in-Page.page c.return_page.result
    (rw c.in-Page.is at talked.write_cause) c.return_page.ensures.cause
    (rw c.in-Page.is at (talked.talks s u t (page_due c.args.config.now plan.url plan.route false)))
    (c.return_page.ensures.returns (talked.out_goes_on.tells_same ∙ u))

pub returns-in-Ended-clause-tunnels : goal.returns-in-Ended-clause-tunnels
returns-in-Ended-clause-tunnels g c s u t =
    let plan = c.args.plan.now in
    rw c.in-Ended.is at (c.dial_tunnel.ensures.talks s u t (page_due c.args.config.now plan.url plan.route false))

pub returns-in-Page-clause-ending : goal.returns-in-Page-clause-ending
returns-in-Page-clause-ending g c = page_or_broken IsTunnelEnding _ c.in-Page.page (inr refl) c.return_page.ensures.ending

pub returns-in-Ended-clause-ending : goal.returns-in-Ended-clause-ending
returns-in-Ended-clause-ending g c = of_kind IsTunnelEnding _ (rw c.in-Ended.is at c.dial_tunnel.ensures.page_cause)
