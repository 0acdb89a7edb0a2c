use Rattle.std.proofs.Common.{refl}
use Rattle.px_exchange.proofs.ReplyLemmas.{local_cause}
use Rattle.px_exchange.proofs.StandingLemmas.{answered, forward_done, local_done}
use Rattle.px_exchange.proofs.exchanges.exchange.Goals as goal

pub returns-in-Local-clause-answers : goal.returns-in-Local-clause-answers
returns-in-Local-clause-answers g c s u t =
    rw c.in-Local.is
    (answered _ _ _ _ _ (g.O.Sink.state c.args.client_out.now) (g.O.Sink.state c.return_reply.new.client_out) c.return_reply.result
    (local_done c.args.running.now c.in-Local.reply _ (g.D.Dialer.state c.args.dialer.now) _ _ c.return_reply.result refl c.return_reply.ensures.cause
    (rw c.config-config.ensures at (c.return_reply.ensures.returns u))))

pub returns-in-Local-clause-counted : goal.returns-in-Local-clause-counted
returns-in-Local-clause-counted g c s u t =
    rw c.in-Local.is
    (local_done c.args.running.now c.in-Local.reply _ (g.D.Dialer.state c.args.dialer.now) _ _ c.return_reply.result refl c.return_reply.ensures.cause
    (rw c.config-config.ensures at (c.return_reply.ensures.returns u)))

pub returns-in-Local-clause-page_cause : goal.returns-in-Local-clause-page_cause
returns-in-Local-clause-page_cause g c =
    local_cause c.in-Local.reply (g.D.Dialer.state c.args.dialer.now) (g.D.Dialer.state c.args.dialer.now) c.return_reply.result.ending
    (rw c.in-Local.is at c.requires.quiet) c.return_reply.ensures.page

pub returns-in-Tunnel-clause-answers : goal.returns-in-Tunnel-clause-answers
returns-in-Tunnel-clause-answers g c s u t =
    rw c.in-Tunnel.is
    (answered _ _ _ _ _ (g.O.Sink.state c.args.client_out.now) (g.O.Sink.state c.open_tunnel.new.client_out) c.open_tunnel.result
    (rw c.config-config.ensures at (c.open_tunnel.ensures.tunnels s u t)))

pub returns-in-Tunnel-clause-counted : goal.returns-in-Tunnel-clause-counted
returns-in-Tunnel-clause-counted g c s u t = rw c.in-Tunnel.is (rw c.config-config.ensures at (c.open_tunnel.ensures.tunnels s u t))

pub returns-in-Forward-clause-answers : goal.returns-in-Forward-clause-answers
returns-in-Forward-clause-answers g c s u t =
    rw c.in-Forward.is
    (answered _ _ _ _ _ (g.O.Sink.state c.args.client_out.now) (g.O.Sink.state c.forward.new.client_out) c.forward.result
    (forward_done c.args.running.now c.in-Forward.plan _ _ _ (g.O.Sink.state c.args.client_out.now) (g.O.Sink.state c.forward.new.client_out) c.forward.result
    c.forward.ensures.write_cause (c.forward.ensures.forwards s u t)))

pub returns-in-Forward-clause-counted : goal.returns-in-Forward-clause-counted
returns-in-Forward-clause-counted g c s u t =
    rw c.in-Forward.is
    (forward_done c.args.running.now c.in-Forward.plan _ _ _ (g.O.Sink.state c.args.client_out.now) (g.O.Sink.state c.forward.new.client_out) c.forward.result
    c.forward.ensures.write_cause (c.forward.ensures.forwards s u t))

pub returns-in-Local-clause-ending : goal.returns-in-Local-clause-ending
returns-in-Local-clause-ending g c = rw c.in-Local.is c.return_reply.ensures.ending

pub returns-in-Tunnel-clause-ending : goal.returns-in-Tunnel-clause-ending
returns-in-Tunnel-clause-ending g c = rw c.in-Tunnel.is c.open_tunnel.ensures.ending

pub returns-in-Forward-clause-ending : goal.returns-in-Forward-clause-ending
returns-in-Forward-clause-ending g c = rw c.in-Forward.is c.forward.ensures.ending
