use Rattle.std.proofs.Common.{◌∙◌, sym}
use Rattle.std.proofs.lemmas.List.{append-nil}
use Rattle.px_pumps.specs.Asking.{ask_of}
use Rattle.px_exchange.proofs.DiallingLemmas.{dialed_open, dialed_once, no_name_once, not_reached_once}
use Rattle.px_exchange.proofs.StandingLemmas.{forward_dialled, forward_no_name, forward_not_reached, forward_undialled}
use Rattle.px_exchange.proofs.dialling.dial_and_send.Goals as goal

pub hang_up-requires-clause-open : goal.hang_up-requires-clause-open
hang_up-requires-clause-open g c t =
    let told = sym c.in-Ok.ensures.goes_on.tells_same ∙ t in
    dialed_open _ _ _ _ (c.in-Ok.ensures.dials told) c.talk_over-talked.ensures.in_goes_on

pub returns-in-Ok-clause-talks : goal.returns-in-Ok-clause-talks
returns-in-Ok-clause-talks g c s u t page_due failed =
    let e = c.in-Ok.ensures in
    let talked = c.talk_over-talked.ensures in
    let told = e.told t in
    let old = g.D.Dialer.state c.args.dialer.now in
    let mid = g.D.Dialer.state c.dial.new.self in
    let new = g.D.Dialer.state c.hang_up.new.self in
    let i = g.D.In.Source.state c.talk_over-talked.new.link_in in
    let o = g.D.Out.Sink.state c.talk_over-talked.new.link_out in
    forward_dialled failed (ask_of c.args.running.now c.args.errand.asked page_due) c.args.route.now c.args.errand.message _ old new
    (g.O.Sink.state c.args.client_out.now).taken (g.O.Sink.state c.talk_over-talked.new.client_out).taken c.talk_over-talked.result _
    (dialed_once old mid new _ i _ o c.args.route.now
    (e.goes_on.tells_same ∙ t) (rw c.as_bytes.ensures at (e.dials t)) told e.fresh
    (λ k. rw c.as_bytes.ensures at (e.coming k)) (λ k. rw c.as_bytes.ensures at (e.coming_left k)) e.goes_on c.hang_up.ensures.goes_on (e.cause.link_reads_same, e.cause.link_writes_same)
    talked.in_goes_on (λ s. (talked.out_goes_on.steady_kept s (talked.link_open ∙ e.fresh.not_finished)).1) c.hang_up.ensures.hung_up)
    (talked.talks s told.in_tells told.out_tells u e.fresh page_due c.args.route.now failed)

pub returns-in-Err-NoName-clause-talks : goal.returns-in-Err-NoName-clause-talks
returns-in-Err-NoName-clause-talks g c s u t page_due failed =
    let e = c.in-Err-NoName.ensures in
    let old = g.D.Dialer.state c.args.dialer.now in
    let new = g.D.Dialer.state c.dial.new.self in
    let taken = (g.O.Sink.state c.args.client_out.now).taken in
    rw c.no_name_page.ensures
    (forward_no_name failed (ask_of c.args.running.now c.args.errand.asked page_due) c.args.route.now c.args.errand.message _ old new taken
    (no_name_once old new c.args.route.now (rw (c.in-Err-NoName.field-0-is, c.as_bytes.ensures) at (e.dials t)) (λ k. rw (c.in-Err-NoName.field-0-is, c.as_bytes.ensures) at (e.coming k))
    (λ k. rw (c.in-Err-NoName.field-0-is, c.as_bytes.ensures) at (e.coming_left k)) e.goes_on (rw c.in-Err-NoName.field-0-is at e.cause.by).0))

pub returns-in-Err-NotReached-clause-talks : goal.returns-in-Err-NotReached-clause-talks
returns-in-Err-NotReached-clause-talks g c s u t page_due failed =
    let e = c.in-Err-NotReached.ensures in
    let old = g.D.Dialer.state c.args.dialer.now in
    let new = g.D.Dialer.state c.dial.new.self in
    let taken = (g.O.Sink.state c.args.client_out.now).taken in
    rw c.not_reached_page.ensures
    (forward_not_reached failed (ask_of c.args.running.now c.args.errand.asked page_due) c.args.route.now c.args.errand.message _ old new taken
    (not_reached_once old new c.args.route.now (rw (c.in-Err-NotReached.field-0-is, c.as_bytes.ensures) at (e.dials t)) (λ k. rw (c.in-Err-NotReached.field-0-is, c.as_bytes.ensures) at (e.coming k))
    (λ k. rw (c.in-Err-NotReached.field-0-is, c.as_bytes.ensures) at (e.coming_left k)) e.goes_on (rw c.in-Err-NotReached.field-0-is at e.cause.by).1))

pub returns-clause-talks : goal.returns-clause-talks
returns-clause-talks g c s u t page_due failed =
    let e = c.in-Err-Mem.ensures in
    let old = g.D.Dialer.state c.args.dialer.now in
    let new = g.D.Dialer.state c.dial.new.self in
    rw c.broken.ensures (forward_undialled failed (ask_of c.args.running.now c.args.errand.asked page_due) c.args.route.now c.args.errand.message _ old new _ ((rw c.in-Err-Mem.field-0-is at (e.dials t)) ∙ append-nil old.dials))
