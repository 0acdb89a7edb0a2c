use Rattle.px_socks.proofs.DialLemmas.{too_long_keeps, too_long_outer}
use Rattle.px_socks.proofs.dialers.SocksDialer.refuse_long.Goals as goal

pub invariant_of-self-2 : goal.invariant_of-self-2
invariant_of-self-2 g c = λ t.
    too_long_keeps c.self.inside.notes.items c.reserve.new.self.items c.note_down.new.notes.items (g.D.LocalDialer.state c.self.inside.inner).dials c.args.host.now c.args.port
    c.reserve.ensures.items (rw c.in_ok-name.ensures at c.note_down.ensures.noted) c.requires.long (c.self.invariant t)

pub returns-clause-dials : goal.returns-clause-dials
returns-clause-dials g c = rw (← c.self.view_is) (λ t.
    too_long_outer c.self.inside.notes.items c.reserve.new.self.items c.note_down.new.notes.items (g.D.LocalDialer.state c.self.inside.inner).dials c.args.host.now c.args.port
    c.reserve.ensures.items (rw c.in_ok-name.ensures at c.note_down.ensures.noted) (c.self.invariant t))
