use Rattle.px_socks.proofs.HandshakeLemmas.{handshakes_of}
use Rattle.px_socks.proofs.dialers.SocksDialer.into_inner.Goals as goal

pub returns-clause-handshakes : goal.returns-clause-handshakes
returns-clause-handshakes g c = rw (← c.self.view_is) (λ t. handshakes_of c.self.inside.notes.items (g.D.LocalDialer.state c.self.inside.inner).dials (c.self.invariant t).tied)
