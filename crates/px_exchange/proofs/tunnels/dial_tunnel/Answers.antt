use Rattle.std.proofs.Common.{◌∙◌, sym, refl, false}
use Rattle.std.proofs.lemmas.List.{append-nil}
use Rattle.px_exchange.proofs.DiallingLemmas.{dialed_open, dialed_once, no_name_once, not_reached_once}
use Rattle.px_exchange.proofs.StandingLemmas.{tunnel_dialled, tunnel_no_name, tunnel_not_reached, tunnel_undialled}
use Rattle.px_exchange.proofs.tunnels.dial_tunnel.Goals as goal

pub hang_up-requires-clause-open : goal.hang_up-requires-clause-open
hang_up-requires-clause-open g c t =
    let told = sym c.in-Ok.ensures.goes_on.tells_same ∙ t in
    dialed_open _ _ _ _ (c.in-Ok.ensures.dials told) c.tunnel_over-talked.ensures.in_goes_on

pub returns-in-Ok-clause-talks : goal.returns-in-Ok-clause-talks
returns-in-Ok-clause-talks g c s u t page_due =
    let e = c.in-Ok.ensures in
    let talked = c.tunnel_over-talked.ensures in
    let told = e.told t in
    let old = g.D.Dialer.state c.args.dialer.now in
    let mid = g.D.Dialer.state c.dial.new.self in
    let new = g.D.Dialer.state c.hang_up.new.self in
    let i = g.D.In.Source.state c.tunnel_over-talked.new.link_in in
    let o = g.D.Out.Sink.state c.tunnel_over-talked.new.link_out in
    let plan = c.args.plan.now in
    let so = talked.talks (rw (← c.client.view_is) at s) told.in_tells told.out_tells u e.fresh page_due in
    rw (← c.client.view_is)
    (record {
      failed = so.failed;
      cause = so.cause;
      is_so = tunnel_dialled so.failed page_due plan _ old new (g.O.Sink.state c.args.client_out.now).taken (g.O.Sink.state c.tunnel_over-talked.new.client_out).taken c.tunnel_over-talked.result _
          (dialed_once old mid new _ i _ o plan.route
          (e.goes_on.tells_same ∙ t) (rw c.as_bytes.ensures at (e.dials t)) told e.fresh
          (λ k. rw c.as_bytes.ensures at (e.coming k)) (λ k. rw c.as_bytes.ensures at (e.coming_left k)) e.goes_on c.hang_up.ensures.goes_on (e.cause.link_reads_same, e.cause.link_writes_same)
          talked.in_goes_on (λ k. talked.link_calm k e.fresh.not_finished) c.hang_up.ensures.hung_up)
          so.is_so;
    })

pub returns-in-Err-NoName-clause-talks : goal.returns-in-Err-NoName-clause-talks
returns-in-Err-NoName-clause-talks g c s u t page_due =
    let e = c.in-Err-NoName.ensures in
    let old = g.D.Dialer.state c.args.dialer.now in
    let new = g.D.Dialer.state c.dial.new.self in
    let taken = (g.O.Sink.state c.args.client_out.now).taken in
    record {
      failed = false;
      cause = refl;
      is_so = rw c.no_name_page.ensures
          (tunnel_no_name false page_due c.args.plan.now _ old new taken
          (no_name_once old new c.args.plan.now.route (rw (c.in-Err-NoName.field-0-is, c.as_bytes.ensures) at (e.dials t)) (λ k. rw (c.in-Err-NoName.field-0-is, c.as_bytes.ensures) at (e.coming k))
          (λ k. rw (c.in-Err-NoName.field-0-is, c.as_bytes.ensures) at (e.coming_left k)) e.goes_on (rw c.in-Err-NoName.field-0-is at e.cause.by).0));
    }

pub returns-in-Err-NotReached-clause-talks : goal.returns-in-Err-NotReached-clause-talks
returns-in-Err-NotReached-clause-talks g c s u t page_due =
    let e = c.in-Err-NotReached.ensures in
    let old = g.D.Dialer.state c.args.dialer.now in
    let new = g.D.Dialer.state c.dial.new.self in
    let taken = (g.O.Sink.state c.args.client_out.now).taken in
    record {
      failed = false;
      cause = refl;
      is_so = rw c.not_reached_page.ensures
          (tunnel_not_reached false page_due c.args.plan.now _ old new taken
          (not_reached_once old new c.args.plan.now.route (rw (c.in-Err-NotReached.field-0-is, c.as_bytes.ensures) at (e.dials t)) (λ k. rw (c.in-Err-NotReached.field-0-is, c.as_bytes.ensures) at (e.coming k))
          (λ k. rw (c.in-Err-NotReached.field-0-is, c.as_bytes.ensures) at (e.coming_left k)) e.goes_on (rw c.in-Err-NotReached.field-0-is at e.cause.by).1));
    }

pub returns-in-Err-Mem-clause-talks : goal.returns-in-Err-Mem-clause-talks
returns-in-Err-Mem-clause-talks g c s u t page_due =
    let e = c.in-Err-Mem.ensures in
    let old = g.D.Dialer.state c.args.dialer.now in
    let new = g.D.Dialer.state c.dial.new.self in
    record { failed = false; cause = refl; is_so = rw c.broken.ensures (tunnel_undialled false page_due c.args.plan.now _ old new _ ((rw c.in-Err-Mem.field-0-is at (e.dials t)) ∙ append-nil old.dials)) }
