-- A dial more in both lists.
use Rattle.std.proofs.Common.{◌≡◌, ℕ, true, false, IsTrue, List, [], ◌∷◌, ◌++◌, length, drop, ◌≤◌, sym, ap, subst, ◌∙◌, refl, Some, Ok, append-nil}
use Rattle.std.proofs.lemmas.Bool.{eqb-true, false_from_ne_true}
use Rattle.px_base.specs.Sources.{SourceState}
use Rattle.px_base.specs.Sinks.{SinkState}
use Rattle.px_base.specs.Dials.{DialerState, IsTold, is_open}
use Rattle.px_base.specs.declared.dials.Dial.{Dial}
use Rattle.px_base.specs.declared.dials.DialOutcome.TheVariants as outcome
use Rattle.px_socks.specs.declared.ends.HandshakePassage.{HandshakePassage}
use Rattle.px_socks.specs.declared.notes.DialNote.{DialNote}
use Rattle.px_socks.specs.declared.notes.DialNote.TheVariants as note
use Rattle.px_socks.specs.Marks.{mark_behind}
use Rattle.px_socks.specs.Ends.{InnerSource, InnerSink, source_behind, sink_behind}
use Rattle.px_socks.specs.Messages.{messages, IsAccepted, Took}
use Rattle.px_base.specs.DialNames.{is_dial_name, target_of, server_of}
use Rattle.px_socks.specs.Notes.{passage_of, outer_dials, refused_dial, IsRefusedBy, IsLostBy, IsTooLong, AreTied, KeepsNotes}
use Rattle.px_socks.specs.Dialers.{KeptDialer, outer_state}
use Rattle.px_socks.specs.Serving.{open_dial, AddsDial, IsNewLink, ServesDial}
use Rattle.px_socks.proofs.MarkLemmas.{mark_injective, same_passage}
use Rattle.px_socks.proofs.NoteLemmas.{open_below, outer-append, tied-append, distinct-append, refused_not_open, lost_not_open, IsNew}
use Rattle.px_base.specs.Lists.{told}

-- no open link has the mark of a new one
pub new_open : (host : List ℕ) (port : ℕ) (i : SourceState) (ds : List Dial) → is_open i.mark ds ≡ false → IsNew (open_dial host port i) ds
new_open host port i ds h = λ mark o. let P = λ (n : ℕ). is_open n ds ≡ false in subst P (eqb-true i.mark mark o) h

pub new_refused : (host : List ℕ) (port : ℕ) (ds : List Dial) → IsNew (record { host = host; port = port; outcome = outcome.NotReached }) ds
new_refused host port ds = λ mark o. absurd (cc)

pub new_nameless : (host : List ℕ) (port : ℕ) (ds : List Dial) → IsNew (record { host = host; port = port; outcome = outcome.NoName }) ds
new_nameless host port ds = λ mark o. absurd (cc)

-- the notes of a dialer behind a dial more
pub record Noted (ns ns' : List DialNote) (ds ds' : List Dial) (n : DialNote) (d : Dial) : Type 0 where
  pub note : ns' ≡ ns ++ n ∷ []
  pub dial : ds' ≡ ds ++ d ∷ []
  pub tie : AreTied (n ∷ []) (d ∷ [])
  pub new : IsNew d ds

pub noted_keeps : {ns ns' : List DialNote} {ds ds' : List Dial} {n : DialNote} {d : Dial} → KeepsNotes ns ds → Noted ns ns' ds ds' n d → KeepsNotes ns' ds'
noted_keeps {ns = ns} {ds = ds} {n = n} {d = d} k h = record {
  tied = rw (h.note, h.dial) (tied-append ns (n ∷ []) ds (d ∷ []) k.tied h.tie);
  distinct = rw h.dial (distinct-append ds d k.distinct h.new);
}

pub noted_outer : {ns ns' : List DialNote} {ds ds' : List Dial} {n : DialNote} {d : Dial} → KeepsNotes ns ds → Noted ns ns' ds ds' n d → outer_dials ns' ds' ≡ outer_dials ns ds ++ outer_dials (n ∷ []) (d ∷ [])
noted_outer {ns = ns} {ds = ds} {n = n} {d = d} k h = rw (h.note, h.dial) (outer-append ns (n ∷ []) ds (d ∷ []) k.tied)

-- a new link is told behind a handshake too
pub told_behind : (k : KeptDialer) (p : HandshakePassage) (i : SourceState) (o : SinkState) → IsTold k.inner (record { link_in = i; link_out = o }) → IsTold (outer_state k) (record { link_in = source_behind p i; link_out = sink_behind p o })
told_behind k p i o h = record {
  in_tells = h.in_tells;
  out_tells = h.out_tells;
  one_mark = rw (h.in_tells, h.out_tells, h.one_mark) refl;
  new_mark = false_from_ne_true (is_open (mark_behind i.tells p i.mark) (outer_dials k.notes k.inner.dials)) (λ yes.
      let below = open_below (mark_behind i.tells p i.mark) k.notes k.inner.dials yes in
      let same = mark_injective i.tells p below.passage i.mark below.inner below.same in
      let P = λ (n : ℕ). is_open n k.inner.dials ≡ true in
      let there = subst P (sym same.mark) below.open_there in
      let none = h.new_mark in
      absurd (cc));
}

pub plain_noted : (ns ns1 ns' : List DialNote) (ds ds' : List Dial) (d : Dial) → is_dial_name d.host ≡ false → ns1 ≡ ns → ns' ≡ ns1 ++ note.Plain ∷ [] → ds' ≡ ds ++ d ∷ [] → IsNew d ds → Noted ns ns' ds ds' note.Plain d
plain_noted ns ns1 ns' ds ds' d no_name e f h new = record { note = f ∙ ap (λ (l : List DialNote). l ++ note.Plain ∷ []) e; dial = h; tie = (no_name, tt); new = new }

-- what the handshake took, by the name and the port
pub passage_by : (p q : HandshakePassage) (host : List ℕ) (port heard : ℕ) (sent : List ℕ) → p ≡ q → q.messages ≡ sent → sent ≡ messages (target_of host) port → heard ≡ p.heard → p ≡ passage_of host port heard
passage_by p q host port heard sent e f h n = same_passage p (passage_of host port heard) (sym n) (ap (λ (r : HandshakePassage). r.messages) e ∙ f ∙ h)

pub accepted_noted : (ns ns1 ns' : List DialNote) (old new : DialerState) (host sh : List ℕ) (port sp heard : ℕ) (sent : List ℕ) (link : InnerSource × InnerSink)
    → ns1 ≡ ns → ns' ≡ ns1 ++ note.Accepted host port heard ∷ [] → IsTrue (is_dial_name host) → length (target_of host) ≤ 255 → server_of host ≡ Some (record { host = sh; port = sp })
    → link.0.passage ≡ passage_of host port heard → ServesDial old new sh sp sent (Ok link)
    → Noted ns ns' old.dials new.dials (note.Accepted host port heard) (open_dial sh sp link.0.source)
accepted_noted ns ns1 ns' old new host sh port sp heard sent link e f named short server p s = record {
  note = f ∙ ap (λ (l : List DialNote). l ++ note.Accepted host port heard ∷ []) e;
  dial = s.1;
  tie = (
    record {
      named = named;
      short = short;
      server = server;
      outcome = let P = λ (n : ℕ). Took IsAccepted n link.0.source.offered (drop n link.0.source.offered) in subst P (ap (λ (r : HandshakePassage). r.heard) p) s.0.accepted;
    },
    tt,
  );
  new = new_open sh sp link.0.source old.dials s.0.new_mark;
}

pub accepted_outer : (ns ns' : List DialNote) (ds ds' : List Dial) (host sh : List ℕ) (port sp heard : ℕ) (i : InnerSource) → KeepsNotes ns ds
    → Noted ns ns' ds ds' (note.Accepted host port heard) (open_dial sh sp i.source) → IsTrue i.source.tells → i.passage ≡ passage_of host port heard
    → outer_dials ns' ds' ≡ outer_dials ns ds ++ record { host = host; port = port; outcome = outcome.Open (mark_behind i.source.tells i.passage i.source.mark) (told i.source.tells (drop i.passage.heard i.source.offered)) } ∷ []
accepted_outer ns ns' ds ds' host sh port sp heard i k h t p = rw (t, p) (noted_outer k h)

pub refused_noted : (ns ns1 ns' : List DialNote) (old new : DialerState) (host sh : List ℕ) (port sp : ℕ) (sent : List ℕ)
    → ns1 ≡ ns → ns' ≡ ns1 ++ note.Refused host port ∷ [] → IsTrue (is_dial_name host) → length (target_of host) ≤ 255 → server_of host ≡ Some (record { host = sh; port = sp })
    → sent ≡ messages (target_of host) port → (s : AddsDial old new sh sp (λ d. IsRefusedBy sent d.outcome))
    → Noted ns ns' old.dials new.dials (note.Refused host port) s.dial
refused_noted ns ns1 ns' old new host sh port sp sent e f named short server m s = record {
  note = f ∙ ap (λ (l : List DialNote). l ++ note.Refused host port ∷ []) e;
  dial = s.added;
  tie = (
    record {
      named = named;
      short = short;
      server = server ∙ rw (s.to_host, s.to_port) refl;
      outcome = let P = λ (l : List ℕ). IsRefusedBy l s.dial.outcome in subst P m s.outcome;
    },
    tt,
  );
  new = λ mark o. let none = refused_not_open mark sent s.dial.outcome s.outcome in absurd (cc);
}

pub lost_noted : (ns ns1 ns' : List DialNote) (old new : DialerState) (host sh : List ℕ) (port sp : ℕ) (sent : List ℕ)
    → ns1 ≡ ns → ns' ≡ ns1 ++ note.Lost host port ∷ [] → IsTrue (is_dial_name host) → length (target_of host) ≤ 255 → server_of host ≡ Some (record { host = sh; port = sp })
    → sent ≡ messages (target_of host) port → (s : AddsDial old new sh sp (λ d. IsLostBy sent d.outcome))
    → Noted ns ns' old.dials new.dials (note.Lost host port) s.dial
lost_noted ns ns1 ns' old new host sh port sp sent e f named short server m s = record {
  note = f ∙ ap (λ (l : List DialNote). l ++ note.Lost host port ∷ []) e;
  dial = s.added;
  tie = (
    record {
      named = named;
      short = short;
      server = server ∙ rw (s.to_host, s.to_port) refl;
      outcome = let P = λ (l : List ℕ). IsLostBy l s.dial.outcome in subst P m s.outcome;
    },
    tt,
  );
  new = λ mark o. let none = lost_not_open mark sent s.dial.outcome s.outcome in absurd (cc);
}

-- a name that is too long adds no inner dial
pub too_long_keeps : (ns ns1 ns' : List DialNote) (ds : List Dial) (host : List ℕ) (port : ℕ) → ns1 ≡ ns → ns' ≡ ns1 ++ note.TooLong host port ∷ [] → IsTooLong host → KeepsNotes ns ds → KeepsNotes ns' ds
too_long_keeps ns ns1 ns' ds host port e f long k = record {
  tied = rw (f, e) (let P = λ (es : List Dial). AreTied (ns ++ note.TooLong host port ∷ []) es in subst P (append-nil ds) (tied-append ns (note.TooLong host port ∷ []) ds [] k.tied (long, tt)));
  distinct = k.distinct;
}

pub too_long_outer : (ns ns1 ns' : List DialNote) (ds : List Dial) (host : List ℕ) (port : ℕ) → ns1 ≡ ns → ns' ≡ ns1 ++ note.TooLong host port ∷ [] → KeepsNotes ns ds
    → outer_dials ns' ds ≡ outer_dials ns ds ++ refused_dial host port ∷ []
too_long_outer ns ns1 ns' ds host port e f k =
    rw (f, e) (ap (λ (es : List Dial). outer_dials (ns ++ note.TooLong host port ∷ []) es) (sym (append-nil ds)) ∙ outer-append ns (note.TooLong host port ∷ []) ds [] k.tied)

pub told_new : (k : KeptDialer) (link : InnerSource × InnerSink) → link.0.passage ≡ link.1.passage → IsNewLink k.inner link
    → IsTold (outer_state k) (record { link_in = source_behind link.0.passage link.0.source; link_out = sink_behind link.1.passage link.1.sink })
told_new k link e h =
    let told : IsTold k.inner (record { link_in = link.0.source; link_out = link.1.sink }) = record { in_tells = h.in_tells; out_tells = h.out_tells; one_mark = h.one_mark; new_mark = h.new_mark } in
    rw e (told_behind k link.1.passage link.0.source link.1.sink told)
