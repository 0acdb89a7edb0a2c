use Rattle.std.proofs.Common.{sym, ◌∙◌}
use Rattle.px_socks.proofs.ServeLemmas.{dialled_open, serves_behind}
use Rattle.px_base.specs.Dials.{met}
use Rattle.px_socks.proofs.ComingLemmas.{came_behind}
use Rattle.px_socks.proofs.servers.dial_server.Goals as goal

pub handshake_over-requires-clause-told : goal.handshake_over-requires-clause-told
handshake_over-requires-clause-told g c = λ t.
    dialled_open (g.D.LocalDialer.state c.args.inner.now) (g.D.LocalDialer.state c.dial.new.self) c.args.host.now c.args.port (g.D.In.LocalSource.state c.in-Ok.link.0) (g.D.Out.LocalSink.state c.in-Ok.link.1)
    (c.in-Ok.ensures.dials (sym c.in-Ok.ensures.goes_on.tells_same ∙ t)) (c.in-Ok.ensures.told (sym c.in-Ok.ensures.goes_on.tells_same ∙ t))

pub returns-in-Ok-clause-dials : goal.returns-in-Ok-clause-dials
returns-in-Ok-clause-dials g c = λ t.
    serves_behind (g.D.LocalDialer.state c.args.inner.now) (g.D.LocalDialer.state c.dial.new.self) (g.D.LocalDialer.state c.handshake_over.new.inner) c.args.host.now c.args.port c.args.messages
    (g.D.In.LocalSource.state c.in-Ok.link.0) (g.D.Out.LocalSink.state c.in-Ok.link.1) c.handshake_over.result
    (c.in-Ok.ensures.goes_on.tells_same ∙ t) (c.in-Ok.ensures.dials t) (c.in-Ok.ensures.told t)
    c.handshake_over.ensures.behind c.handshake_over.ensures.same c.handshake_over.ensures.hung c.handshake_over.ensures.never_mem

pub returns-in-Ok-clause-came : goal.returns-in-Ok-clause-came
returns-in-Ok-clause-came g c = λ t k.
    came_behind (met (g.D.LocalDialer.state c.args.inner.now) c.args.host.now) (g.D.LocalDialer.state c.dial.new.self) (g.D.LocalDialer.state c.handshake_over.new.inner)
    (g.D.In.LocalSource.state c.in-Ok.link.0) (g.D.Out.LocalSink.state c.in-Ok.link.1) c.args.messages c.handshake_over.result
    (c.in-Ok.ensures.coming k) c.in-Ok.ensures.fresh (c.in-Ok.ensures.told t).in_tells c.handshake_over.ensures.behind c.handshake_over.ensures.hung
