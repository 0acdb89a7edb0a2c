-- The session of the one client, by that between its ends.
use Rattle.std.proofs.Common.{◌≡◌, ◌≢◌, ℕ, Bool, true, false, List, [], ap, refl, sym, subst, ◌∙◌}
use Rattle.px_base.specs.Dials.{DialerState}
use Rattle.px_base.specs.declared.dials.Dial.{Dial}
use Rattle.px_ends.specs.Ends.{EndsState, client_stream}
use Rattle.px_pool_ends.specs.Incomings.{Hearing}
use Rattle.px_pool_ends.specs.Outgoings.{Sending}
use Rattle.px_link_pool.specs.Histories.{Views}
use Rattle.px_link_pool.specs.declared.histories.History.{History}
use Rattle.px_notes.specs.declared.sessions.ExchangeNote.{ExchangeNote}
use Rattle.px_notes.specs.declared.sessions.SessionEnd.{SessionEnd}
use Rattle.px_notes.specs.declared.sessions.SessionEnd.TheVariants as end
use Rattle.px_serve.specs.Histories.{Begun, Looks}
use Rattle.px_pages.specs.Pages.{FitsPages}
use Rattle.px_serve.specs.Sessions.{IsSession, Serves}
use Rattle.px_shared.specs.Links.{EachAnswered, EachHeardFront, NoTunnel, with_heard}
use Rattle.px_shared.specs.Sharing.{PoolTells, Unpools, pooled, pooled_ends}
use Rattle.px_commands.specs.Clients.{IsAlone, LeftOf, ServesClient, ServesEnds, StreamsGoOn, StreamsState, begun_over, client_ends}

-- what is left of a dialer that tells, tells
pub tells_left : {S T : Type 0} (v : Views S T) (sharing : Bool) (d own left : DialerState) → own.tells ≡ (begun_over sharing d).tells → LeftOf v sharing own left → left.tells ≡ d.tells
tells_left v true d own left same h = h.1.is_left.tells ∙ same
tells_left v false d own left same h = ap (λ (x : DialerState). x.tells) h ∙ same

-- a session over a pool, by the laws on such sessions
pub shares_links : {S T : Type 0} (v : Views S T) (tags : List (List ℕ)) (looks looks' : Looks) (old own new : EndsState) (notes : List ExchangeNote) (e : SessionEnd) (wanting : ℕ)
    → ((peer stream left : List ℕ) (d d' : DialerState) (taken taken' : List ℕ) (begun : List Begun) (f : SessionEnd) → IsSession peer stream left d d' taken taken' begun f
    → EachHeardFront d'.dials → EachAnswered d'.dials → NoTunnel begun → f ≢ end.NoMemory → IsSession peer stream left (with_heard d) (with_heard d') taken taken' begun f)
    → ((w : Views S T) (before pool_dials inner_dials : List Dial) (history : History Hearing Sending S T) → PoolTells w before pool_dials inner_dials history → EachHeardFront pool_dials)
    → Serves (FitsPages tags) looks looks' (pooled_ends old) own notes e → Unpools v own new wanting → ServesEnds v true tags looks old new e
shares_links v tags looks looks' old own new notes e wanting enough fronts serves unpools = record {
  looks_after = looks';
  notes = notes;
  own = own;
  serves = serves;
  left = (wanting, unpools.leaves);
  rest = unpools.rest;
  alone = λ s tells begun session each none memory.
      enough old.peer (client_stream (pooled_ends old)) own.client.source.left (pooled old.dialer) own.dialer old.client_out.taken own.client_out.taken begun e session
      (fronts v [] own.dialer.dials new.dialer.dials unpools.leaves.history (unpools.leaves.told (serves.goes_on.dialer.tells_same ∙ tells))) each none memory;
}

-- a session whose dials are new links
pub takes_new_links : {S T : Type 0} (v : Views S T) (tags : List (List ℕ)) (looks looks' : Looks) (old new : EndsState) (notes : List ExchangeNote) (e : SessionEnd)
    → Serves (FitsPages tags) looks looks' old new notes e → ServesEnds v false tags looks old new e
takes_new_links v tags looks looks' old new notes e serves = record {
  looks_after = looks';
  notes = notes;
  own = new;
  serves = serves;
  left = refl;
  rest = refl;
  alone = λ s. absurd (cc);
}

-- the ends behind a session are those of its streams
ends_are : (own left : EndsState) (new : StreamsState) (peer : List ℕ) → left ≡ record own { dialer = left.dialer } → new ≡ record { input = left.client.source; out = left.client_out; clock = left.clock } → own.peer ≡ peer
    → own ≡ record { client = record { source = new.input; ahead = own.client.ahead }; client_out = new.out; dialer = own.dialer; clock = new.clock; peer = peer }
ends_are own left new peer rest is called =
    let source : new.input ≡ own.client.source = ap (λ (s : StreamsState). s.input) is ∙ ap (λ (x : EndsState). x.client.source) rest in
    let out : new.out ≡ own.client_out = ap (λ (s : StreamsState). s.out) is ∙ ap (λ (x : EndsState). x.client_out) rest in
    let clock : new.clock ≡ own.clock = ap (λ (s : StreamsState). s.clock) is ∙ ap (λ (x : EndsState). x.clock) rest in
    rw (source, out, clock, ← called) refl

pub client_served : {S T : Type 0} (v : Views S T) (sharing : Bool) (tags : List (List ℕ)) (looks : Looks) (old new : StreamsState) (ends left : EndsState) (d d' : DialerState) (e : SessionEnd)
    → ServesEnds v sharing tags looks ends left e → ends ≡ client_ends old [] d → new ≡ record { input = left.client.source; out = left.client_out; clock = left.clock } → d' ≡ left.dialer
    → ServesClient v sharing tags looks old new d d' e
client_served v sharing tags looks old new ends left d d' e served begins streams dialer =
    let h : ServesEnds v sharing tags looks (client_ends old [] d) left e = rw begins at served in
    let own_is = ends_are h.own left new _ h.rest streams h.serves.goes_on.peer_same in
    record {
      looks_after = h.looks_after;
      notes = h.notes;
      dialer = h.own.dialer;
      ahead = h.own.client.ahead;
      serves = subst (λ (x : EndsState). Serves (FitsPages tags) looks h.looks_after (client_ends old [] (begun_over sharing d)) x h.notes e) own_is h.serves;
      left = subst (LeftOf v sharing h.own.dialer) (sym dialer) h.left;
      alone = λ s t. subst (λ (x : EndsState). IsAlone (client_ends old [] (begun_over sharing d)) x e) own_is (h.alone s t);
    }

pub streams_go_on : {S T : Type 0} {v : Views S T} {sharing : Bool} {tags : List (List ℕ)} {looks : Looks} {old new : StreamsState} {d d' : DialerState} {e : SessionEnd} → ServesClient v sharing tags looks old new d d' e → StreamsGoOn old new
streams_go_on h = record { input = h.serves.goes_on.client; out = h.serves.goes_on.client_out; clock = h.serves.goes_on.clock }
