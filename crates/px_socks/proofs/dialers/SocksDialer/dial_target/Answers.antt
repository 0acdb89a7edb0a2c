use Rattle.std.proofs.Common.{◌∙◌, ap, List, ℕ, sym}
use Rattle.px_base.specs.DialNames.{is_dial_name}
use Rattle.px_socks.specs.Messages.{messages}
use Rattle.px_socks.proofs.DialLemmas.{passage_by, accepted_noted, accepted_outer, refused_noted, lost_noted, noted_keeps, noted_outer, told_new}
use Rattle.std.proofs.lemmas.Bool.{and_parts}
use Rattle.px_socks.proofs.ComingLemmas.{accepted_coming, refused_coming, named_left, named_wanting, lost_wanting}
use Rattle.px_socks.proofs.dialers.SocksDialer.dial_target.Goals as goal

pub invariant_of-self-in-Ok : goal.invariant_of-self-in-Ok
invariant_of-self-in-Ok g c = λ t.
    let old = sym c.in-Ok.ensures.goes_on.tells_same ∙ t in
    let sent = c.in_ok-messages.ensures.messages ∙ ap (λ (l : List ℕ). messages l c.args.port) c.requires.target in
    noted_keeps (c.self.invariant old)
    (accepted_noted c.self.inside.notes.items c.reserve.new.self.items c.note_down.new.notes.items (g.D.LocalDialer.state c.self.inside.inner) (g.D.LocalDialer.state c.dial_server.new.inner)
    c.args.host.now _ c.args.port _ c.heard-heard.result c.in_ok-messages.messages (c.in-Ok.link_in, c.in-Ok.link_out)
    c.reserve.ensures.items (rw c.in_ok-name.ensures at c.note_down.ensures.noted) c.requires.named c.requires.short c.requires.server
    (passage_by c.in-Ok.link_in.passage c.in-Ok.link_out.passage c.args.host.now c.args.port c.heard-heard.result c.in_ok-messages.messages c.in-Ok.ensures.one_passage c.in-Ok.ensures.messages_sent sent c.heard-heard.ensures.heard)
    (c.in-Ok.ensures.dials old))

pub returns-in-Ok-clause-dials : goal.returns-in-Ok-clause-dials
returns-in-Ok-clause-dials g c = rw (← c.self.view_is) (λ t.
    let sent = c.in_ok-messages.ensures.messages ∙ ap (λ (l : List ℕ). messages l c.args.port) c.requires.target in
    let took = passage_by c.in-Ok.link_in.passage c.in-Ok.link_out.passage c.args.host.now c.args.port c.heard-heard.result c.in_ok-messages.messages c.in-Ok.ensures.one_passage c.in-Ok.ensures.messages_sent sent c.heard-heard.ensures.heard in
    let served = c.in-Ok.ensures.dials t in
    accepted_outer c.self.inside.notes.items c.note_down.new.notes.items (g.D.LocalDialer.state c.self.inside.inner).dials (g.D.LocalDialer.state c.dial_server.new.inner).dials
    c.args.host.now _ c.args.port _ c.heard-heard.result c.in-Ok.link_in (c.self.invariant t)
    (accepted_noted c.self.inside.notes.items c.reserve.new.self.items c.note_down.new.notes.items (g.D.LocalDialer.state c.self.inside.inner) (g.D.LocalDialer.state c.dial_server.new.inner)
    c.args.host.now _ c.args.port _ c.heard-heard.result c.in_ok-messages.messages (c.in-Ok.link_in, c.in-Ok.link_out)
    c.reserve.ensures.items (rw c.in_ok-name.ensures at c.note_down.ensures.noted) c.requires.named c.requires.short c.requires.server took served)
    served.0.in_tells took)

pub invariant_of-self-in-Err-Refused : goal.invariant_of-self-in-Err-Refused
invariant_of-self-in-Err-Refused g c = λ t.
    let old = sym c.in-Err-Refused.ensures.goes_on.tells_same ∙ t in
    noted_keeps (c.self.invariant old)
    (refused_noted c.self.inside.notes.items c.reserve.new.self.items c.note_down-in-Err-Refused.new.notes.items (g.D.LocalDialer.state c.self.inside.inner) (g.D.LocalDialer.state c.dial_server.new.inner)
    c.args.host.now _ c.args.port _ c.in_ok-messages.messages
    c.reserve.ensures.items (rw c.in_ok-name.ensures at c.note_down-in-Err-Refused.ensures.noted) c.requires.named c.requires.short c.requires.server
    (c.in_ok-messages.ensures.messages ∙ ap (λ (l : List ℕ). messages l c.args.port) c.requires.target)
    (rw c.in-Err-Refused.field-0-is at (c.in-Err-Refused.ensures.dials old)))

pub returns-in-Err-Refused-clause-dials : goal.returns-in-Err-Refused-clause-dials
returns-in-Err-Refused-clause-dials g c = rw (← c.self.view_is) (λ t.
    noted_outer (c.self.invariant t)
    (refused_noted c.self.inside.notes.items c.reserve.new.self.items c.note_down-in-Err-Refused.new.notes.items (g.D.LocalDialer.state c.self.inside.inner) (g.D.LocalDialer.state c.dial_server.new.inner)
    c.args.host.now _ c.args.port _ c.in_ok-messages.messages
    c.reserve.ensures.items (rw c.in_ok-name.ensures at c.note_down-in-Err-Refused.ensures.noted) c.requires.named c.requires.short c.requires.server
    (c.in_ok-messages.ensures.messages ∙ ap (λ (l : List ℕ). messages l c.args.port) c.requires.target)
    (rw c.in-Err-Refused.field-0-is at (c.in-Err-Refused.ensures.dials t))))

pub invariant_of-self-in-Err-Lost : goal.invariant_of-self-in-Err-Lost
invariant_of-self-in-Err-Lost g c = λ t.
    let old = sym c.in-Err-Lost.ensures.goes_on.tells_same ∙ t in
    noted_keeps (c.self.invariant old)
    (lost_noted c.self.inside.notes.items c.reserve.new.self.items c.note_down-in-Err-Lost.new.notes.items (g.D.LocalDialer.state c.self.inside.inner) (g.D.LocalDialer.state c.dial_server.new.inner)
    c.args.host.now _ c.args.port _ c.in_ok-messages.messages
    c.reserve.ensures.items (rw c.in_ok-name.ensures at c.note_down-in-Err-Lost.ensures.noted) c.requires.named c.requires.short c.requires.server
    (c.in_ok-messages.ensures.messages ∙ ap (λ (l : List ℕ). messages l c.args.port) c.requires.target)
    (rw c.in-Err-Lost.field-0-is at (c.in-Err-Lost.ensures.dials old)))

pub returns-in-Err-Lost-clause-dials : goal.returns-in-Err-Lost-clause-dials
returns-in-Err-Lost-clause-dials g c = rw (← c.self.view_is) (λ t.
    noted_outer (c.self.invariant t)
    (lost_noted c.self.inside.notes.items c.reserve.new.self.items c.note_down-in-Err-Lost.new.notes.items (g.D.LocalDialer.state c.self.inside.inner) (g.D.LocalDialer.state c.dial_server.new.inner)
    c.args.host.now _ c.args.port _ c.in_ok-messages.messages
    c.reserve.ensures.items (rw c.in_ok-name.ensures at c.note_down-in-Err-Lost.ensures.noted) c.requires.named c.requires.short c.requires.server
    (c.in_ok-messages.ensures.messages ∙ ap (λ (l : List ℕ). messages l c.args.port) c.requires.target)
    (rw c.in-Err-Lost.field-0-is at (c.in-Err-Lost.ensures.dials t))))

pub returns-in-Ok-clause-told : goal.returns-in-Ok-clause-told
returns-in-Ok-clause-told g c = rw (← c.self.view_is) (λ t. told_new _ (c.in-Ok.link_in, c.in-Ok.link_out) c.in-Ok.ensures.one_passage (c.in-Ok.ensures.dials t).0)

pub returns-in-Ok-clause-coming : goal.returns-in-Ok-clause-coming
returns-in-Ok-clause-coming g c = rw (← c.self.view_is) (λ t.
    let both = and_parts (g.D.LocalDialer.state c.self.inside.inner).tells (g.D.LocalDialer.state c.self.inside.inner).tells_coming t in
    accepted_coming (g.D.LocalDialer.state c.self.inside.inner) c.args.host.now (record { host = c.args.parts.server.now; port = c.args.parts.port }) (c.in-Ok.link_in, c.in-Ok.link_out)
    (record { named = c.requires.named; fits = c.requires.short; server = c.requires.server }) (c.in-Ok.ensures.came both.0 both.1) (c.in-Ok.ensures.dials both.0).0.in_tells c.in-Ok.ensures.one_passage)

pub returns-in-Ok-clause-coming_left : goal.returns-in-Ok-clause-coming_left
returns-in-Ok-clause-coming_left g c = rw (← c.self.view_is) (λ t.
    let both = and_parts (g.D.LocalDialer.state c.self.inside.inner).tells (g.D.LocalDialer.state c.self.inside.inner).tells_coming t in
    named_left (g.D.LocalDialer.state c.self.inside.inner) c.args.host.now (record { host = c.args.parts.server.now; port = c.args.parts.port }) (g.D.LocalDialer.state c.dial_server.new.inner).coming
    (record { named = c.requires.named; fits = c.requires.short; server = c.requires.server }) (c.in-Ok.ensures.coming_left both.1))

pub returns-in-Err-Refused-clause-coming : goal.returns-in-Err-Refused-clause-coming
returns-in-Err-Refused-clause-coming g c = rw (← c.self.view_is) (λ t.
    let both = and_parts (g.D.LocalDialer.state c.self.inside.inner).tells (g.D.LocalDialer.state c.self.inside.inner).tells_coming t in
    refused_coming (g.D.LocalDialer.state c.self.inside.inner) c.args.host.now (record { host = c.args.parts.server.now; port = c.args.parts.port })
    (record { named = c.requires.named; fits = c.requires.short; server = c.requires.server }) (rw c.in-Err-Refused.field-0-is at (c.in-Err-Refused.ensures.came both.0 both.1)))

pub returns-in-Err-Refused-clause-coming_left : goal.returns-in-Err-Refused-clause-coming_left
returns-in-Err-Refused-clause-coming_left g c = rw (← c.self.view_is) (λ t.
    let both = and_parts (g.D.LocalDialer.state c.self.inside.inner).tells (g.D.LocalDialer.state c.self.inside.inner).tells_coming t in
    named_left (g.D.LocalDialer.state c.self.inside.inner) c.args.host.now (record { host = c.args.parts.server.now; port = c.args.parts.port }) (g.D.LocalDialer.state c.dial_server.new.inner).coming
    (record { named = c.requires.named; fits = c.requires.short; server = c.requires.server }) (rw c.in-Err-Refused.field-0-is at (c.in-Err-Refused.ensures.coming_left both.1)))

pub returns-in-Err-Lost-clause-coming_left : goal.returns-in-Err-Lost-clause-coming_left
returns-in-Err-Lost-clause-coming_left g c = rw (← c.self.view_is) (λ t.
    let both = and_parts (g.D.LocalDialer.state c.self.inside.inner).tells (g.D.LocalDialer.state c.self.inside.inner).tells_coming t in
    lost_wanting (g.D.LocalDialer.state c.self.inside.inner) c.args.host.now (record { host = c.args.parts.server.now; port = c.args.parts.port }) (g.D.LocalDialer.state c.dial_server.new.inner).coming
    (record { named = c.requires.named; fits = c.requires.short; server = c.requires.server }) (rw c.in-Err-Lost.field-0-is at (c.in-Err-Lost.ensures.coming_left both.1)))

pub returns-in-Err-Mem-clause-coming_left : goal.returns-in-Err-Mem-clause-coming_left
returns-in-Err-Mem-clause-coming_left g c = rw (← c.self.view_is) (λ t.
    let both = and_parts (g.D.LocalDialer.state c.self.inside.inner).tells (g.D.LocalDialer.state c.self.inside.inner).tells_coming t in
    named_wanting (g.D.LocalDialer.state c.self.inside.inner) c.args.host.now (record { host = c.args.parts.server.now; port = c.args.parts.port }) (is_dial_name c.args.host.now) (g.D.LocalDialer.state c.dial_server.new.inner).coming _
    c.requires.server (rw c.in-Err-Mem.field-0-is at (c.in-Err-Mem.ensures.coming_left both.1)))
