use Rattle.std.proofs.Common.{◌∙◌, sym}
use Rattle.px_base.specs.declared.dials.DialOutcome.TheVariants as outcome
use Rattle.px_socks.specs.Serving.{open_dial}
use Rattle.px_socks.specs.Notes.{no_handshake}
use Rattle.px_socks.proofs.DialLemmas.{new_open, new_refused, new_nameless, plain_noted, noted_keeps, noted_outer, told_behind}
use Rattle.std.proofs.lemmas.Bool.{and_parts}
use Rattle.px_socks.proofs.ComingLemmas.{plain_agrees, plain_left}
use Rattle.px_socks.proofs.dialers.SocksDialer.dial_plain.Goals as goal

pub invariant_of-self-in-Ok : goal.invariant_of-self-in-Ok
invariant_of-self-in-Ok g c = λ t.
    let before = sym c.in-Ok.ensures.goes_on.tells_same ∙ t in
    let d = open_dial c.args.host.now c.args.port (g.D.In.LocalSource.state c.in-Ok.link_in) in
    noted_keeps (c.self.invariant before)
    (plain_noted c.self.inside.notes.items c.reserve.new.self.items c.note_down.new.notes.items (g.D.LocalDialer.state c.self.inside.inner).dials (g.D.LocalDialer.state c.dial.new.self).dials d
    c.requires.plain c.reserve.ensures.items c.note_down.ensures.noted (c.in-Ok.ensures.dials before)
    (new_open c.args.host.now c.args.port (g.D.In.LocalSource.state c.in-Ok.link_in) (g.D.LocalDialer.state c.self.inside.inner).dials (c.in-Ok.ensures.told before).new_mark))

pub invariant_of-self-in-Err-NoName : goal.invariant_of-self-in-Err-NoName
invariant_of-self-in-Err-NoName g c = λ t.
    let before = sym c.in-Err-NoName.ensures.goes_on.tells_same ∙ t in
    noted_keeps (c.self.invariant before)
    (plain_noted c.self.inside.notes.items c.reserve.new.self.items c.note_down-in-Err-NoName.new.notes.items (g.D.LocalDialer.state c.self.inside.inner).dials (g.D.LocalDialer.state c.dial.new.self).dials
    (record { host = c.args.host.now; port = c.args.port; outcome = outcome.NoName })
    c.requires.plain c.reserve.ensures.items c.note_down-in-Err-NoName.ensures.noted (rw c.in-Err-NoName.field-0-is at (c.in-Err-NoName.ensures.dials before))
    (new_nameless c.args.host.now c.args.port (g.D.LocalDialer.state c.self.inside.inner).dials))

pub invariant_of-self-in-Err-NotReached : goal.invariant_of-self-in-Err-NotReached
invariant_of-self-in-Err-NotReached g c = λ t.
    let before = sym c.in-Err-NotReached.ensures.goes_on.tells_same ∙ t in
    noted_keeps (c.self.invariant before)
    (plain_noted c.self.inside.notes.items c.reserve.new.self.items c.note_down-in-Err-NotReached.new.notes.items (g.D.LocalDialer.state c.self.inside.inner).dials (g.D.LocalDialer.state c.dial.new.self).dials
    (record { host = c.args.host.now; port = c.args.port; outcome = outcome.NotReached })
    c.requires.plain c.reserve.ensures.items c.note_down-in-Err-NotReached.ensures.noted (rw c.in-Err-NotReached.field-0-is at (c.in-Err-NotReached.ensures.dials before))
    (new_refused c.args.host.now c.args.port (g.D.LocalDialer.state c.self.inside.inner).dials))

pub returns-in-Err-NoName-clause-dials : goal.returns-in-Err-NoName-clause-dials
returns-in-Err-NoName-clause-dials g c = rw (← c.self.view_is) (λ t.
    noted_outer (c.self.invariant t)
    (plain_noted c.self.inside.notes.items c.reserve.new.self.items c.note_down-in-Err-NoName.new.notes.items (g.D.LocalDialer.state c.self.inside.inner).dials (g.D.LocalDialer.state c.dial.new.self).dials
    (record { host = c.args.host.now; port = c.args.port; outcome = outcome.NoName })
    c.requires.plain c.reserve.ensures.items c.note_down-in-Err-NoName.ensures.noted (rw c.in-Err-NoName.field-0-is at (c.in-Err-NoName.ensures.dials t))
    (new_nameless c.args.host.now c.args.port (g.D.LocalDialer.state c.self.inside.inner).dials)))

pub returns-in-Err-NotReached-clause-dials : goal.returns-in-Err-NotReached-clause-dials
returns-in-Err-NotReached-clause-dials g c = rw (← c.self.view_is) (λ t.
    noted_outer (c.self.invariant t)
    (plain_noted c.self.inside.notes.items c.reserve.new.self.items c.note_down-in-Err-NotReached.new.notes.items (g.D.LocalDialer.state c.self.inside.inner).dials (g.D.LocalDialer.state c.dial.new.self).dials
    (record { host = c.args.host.now; port = c.args.port; outcome = outcome.NotReached })
    c.requires.plain c.reserve.ensures.items c.note_down-in-Err-NotReached.ensures.noted (rw c.in-Err-NotReached.field-0-is at (c.in-Err-NotReached.ensures.dials t))
    (new_refused c.args.host.now c.args.port (g.D.LocalDialer.state c.self.inside.inner).dials)))

pub returns-in-Ok-clause-dials : goal.returns-in-Ok-clause-dials
returns-in-Ok-clause-dials g c = rw (← c.self.view_is, c.new.ensures.made, c.no_handshake.ensures.passage) (λ t.
    let told = c.in-Ok.ensures.told t in
    rw told.in_tells
    (noted_outer (c.self.invariant t)
    (plain_noted c.self.inside.notes.items c.reserve.new.self.items c.note_down.new.notes.items (g.D.LocalDialer.state c.self.inside.inner).dials (g.D.LocalDialer.state c.dial.new.self).dials
    (open_dial c.args.host.now c.args.port (g.D.In.LocalSource.state c.in-Ok.link_in))
    c.requires.plain c.reserve.ensures.items c.note_down.ensures.noted (c.in-Ok.ensures.dials t)
    (new_open c.args.host.now c.args.port (g.D.In.LocalSource.state c.in-Ok.link_in) (g.D.LocalDialer.state c.self.inside.inner).dials told.new_mark))))

pub returns-in-Ok-clause-told : goal.returns-in-Ok-clause-told
returns-in-Ok-clause-told g c = rw (← c.self.view_is, c.new.ensures.made, c.new-in-Ok.ensures.made, c.no_handshake.ensures.passage, c.no_handshake-in-Ok.ensures.passage) (λ t.
    told_behind _ no_handshake (g.D.In.LocalSource.state c.in-Ok.link_in) (g.D.Out.LocalSink.state c.in-Ok.link_out) (c.in-Ok.ensures.told t))

pub returns-in-Ok-clause-coming : goal.returns-in-Ok-clause-coming
returns-in-Ok-clause-coming g c = rw (← c.self.view_is, c.new.ensures.made, c.new-in-Ok.ensures.made, c.no_handshake.ensures.passage, c.no_handshake-in-Ok.ensures.passage) (λ t.
    let both = and_parts (g.D.LocalDialer.state c.self.inside.inner).tells (g.D.LocalDialer.state c.self.inside.inner).tells_coming t in
    plain_agrees (g.D.LocalDialer.state c.self.inside.inner) c.args.host.now (g.D.In.LocalSource.state c.in-Ok.link_in) (g.D.Out.LocalSink.state c.in-Ok.link_out)
    c.requires.plain (c.in-Ok.ensures.told both.0).in_tells (c.in-Ok.ensures.coming both.1))

pub returns-in-Ok-clause-coming_left : goal.returns-in-Ok-clause-coming_left
returns-in-Ok-clause-coming_left g c = rw (← c.self.view_is) (λ t.
    let both = and_parts (g.D.LocalDialer.state c.self.inside.inner).tells (g.D.LocalDialer.state c.self.inside.inner).tells_coming t in
    plain_left (g.D.LocalDialer.state c.self.inside.inner) c.args.host.now (g.D.LocalDialer.state c.dial.new.self).coming c.requires.plain (c.in-Ok.ensures.coming_left both.1))
