use Rattle.std.proofs.Common.{◌∙◌}
use Rattle.px_pumps.specs.Asking.{ask_of}
use Rattle.px_sending.specs.Sends.{is_link_failed}
use Rattle.px_exchange.proofs.TalkLemmas.{failed_now, talk_stopped, talk_whole}
use Rattle.px_exchange.proofs.forwarding.talk_over.Goals as goal

pub returns-in-Some-clause-talks : goal.returns-in-Some-clause-talks
returns-in-Some-clause-talks g c s t p o fresh page_due route failed =
    let ask = ask_of c.args.running.now c.args.errand.asked page_due in
    let sent = c.send-sent.ensures in
    let sends = rw fresh.nothing_taken at (sent.sends (rw (← c.client.view_is) at s) p o) in
    let taken = (g.O.Sink.state c.args.client_out.now).taken in
    let mid = (g.O.Sink.state c.send-sent.new.client_out).taken in
    let i = g.I.Source.state c.args.link_in.now in
    let l = g.P.Sink.state c.send-sent.new.link_out in
    rw (← c.client.view_is) (talk_stopped failed ask route c.args.errand.message _ i l taken mid c.send-sent.result c.in-Some.talked c.in-Some.ensures sends
    (failed_now (is_link_failed c.send-sent.result) _ _ fresh.no_write_failed sent.link_cause))

pub returns-clause-talks : goal.returns-clause-talks
returns-clause-talks g c s t p o fresh page_due route failed =
    let ask = ask_of c.args.running.now c.args.errand.asked page_due in
    let sent = c.send-sent.ensures in
    let sends = rw fresh.nothing_taken at (sent.sends (rw (← c.client.view_is) at s) p o) in
    let taken = (g.O.Sink.state c.args.client_out.now).taken in
    let mid = (g.O.Sink.state c.send-sent.new.client_out).taken in
    let i = g.I.Source.state c.args.link_in.now in
    let l = g.P.Sink.state c.send-sent.new.link_out in
    let heard = c.return_answer.ensures.hears page_due in
    rw (← c.client.view_is) (talk_whole failed ask route c.args.errand.message _ i (g.I.Source.state c.return_answer.new.link_in) l taken mid _ c.send-sent.result c.return_answer.result heard.failed
    c.in-None.ensures sends (failed_now (is_link_failed c.send-sent.result) _ _ fresh.no_write_failed sent.link_cause)
    fresh.nothing_read fresh.no_read_failed c.return_answer.ensures.in_goes_on.offered_same heard.cause (heard.stream t (sent.out_goes_on.tells_same ∙ o)))
