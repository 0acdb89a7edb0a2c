-- What one turn of a session adds.
use Rattle.std.proofs.Common.{◌≡◌, ℕ, Bool, true, false, ◌+◌, ◌<◌, ◌==◌, not, IsTrue, List, [], ◌∷◌, ◌++◌, drop, length, map, Option, None, Some, Ok, Err, sym, ap, subst, ◌∙◌, refl, inl, inr, arith, add-one, length-append}
use Rattle.std.specs.Prelude.{All, if◌then◌else◌, unwrap_or}
use Rattle.std.proofs.lemmas.List.{append-nil, map-append}
use Rattle.std.proofs.lemmas.List.Elements.{All-nil}
use Rattle.px_base.specs.Sources.{SourceGoesOn}
use Rattle.px_base.specs.Sinks.{SinkState, SinkGoesOn, Finishes}
use Rattle.px_base.specs.Moments.{ClockState, ClockGoesOn}
use Rattle.px_streams.specs.Feeds.{FeedState, bytes_behind}
use Rattle.px_ends.specs.Ends.{EndsState, EndsGoOn, Tell, client_stream}
use Rattle.px_ends.proofs.EndLemmas.{ends_go_on, ends_same, tell_on}
use Rattle.px_base.proofs.SinkLemmas.{sink_goes_on}
use Rattle.px_head.specs.Blocks.{head_end}
use Rattle.px_head.specs.declared.TheConstants.{HEAD_LIMIT}
use Rattle.px_head.specs.declared.blocks.HeadEnd.TheVariants as head
use Rattle.px_notes.specs.declared.endings.After.{After}
use Rattle.px_notes.specs.declared.endings.After.TheVariants as after
use Rattle.px_notes.specs.declared.endings.Ending.{Ending}
use Rattle.px_notes.specs.declared.sessions.ExchangeNote.{ExchangeNote}
use Rattle.px_notes.specs.declared.sessions.SessionEnd.{SessionEnd}
use Rattle.px_notes.specs.declared.sessions.SessionEnd.TheVariants as end
use Rattle.px_metered.specs.Measured.{IsMeasured}
use Rattle.px_metered.specs.Returned.{returned_of}
use Rattle.px_metered.specs.declared.responses.Tally.{Tally}
use Rattle.px_config.specs.Insides.{InsideState, Law}
use Rattle.px_exchange.specs.Causes.{ClientReadCause, StaysOpenAfter, WriteCauseAfter}
use Rattle.px_serve.specs.declared.ends.TheConstants.{REQUEST_LIMIT}
use Rattle.px_serve.specs.Answering.{AnswersBetween}
use Rattle.px_serve.specs.Ends.{EndCause, Faults, SessionStaysOpen, TurnCause, TurnStaysOpen, end_after, end_by, end_of_bytes, faults_of, is_tunnel, only_empty}
use Rattle.px_serve.specs.Histories.{Begun, Looks, Noted, TakesOne, note_of}
use Rattle.px_serve.specs.Logging.{IsReturned}
use Rattle.px_serve.specs.Takings.{Fits, SuitsBegun, handed_of}
use Rattle.px_serve.specs.Sessions.{EndsBetween, HeadOf, Reaches, ReadsReceived, TakesHead, Runs, ServesFitting, SessionStep, SessionTurns, Turned, is_last_request, session_state}
use Rattle.px_serve.proofs.HistoryLemmas.{noted_more, noted_none, none_noted}
use Rattle.px_serve.proofs.TakingLemmas.{fits_more, fits_none, lawful_more}

-- the client's bytes ended
pub ends_at : (stream ahead left : List ℕ) → head_end HEAD_LIMIT stream ≡ head.NotYet → ahead ++ left ≡ stream → left ≡ [] → EndsBetween stream left (end_of_bytes ahead)
ends_at stream ahead left none e nothing = by (only_empty ahead) refl
  where
    same : stream ≡ ahead
    same = sym e ∙ ap (λ (zs : List ℕ). ahead ++ zs) nothing ∙ append-nil ahead

    by : (b : Bool) → only_empty ahead ≡ b → EndsBetween stream left (if only_empty ahead then end.Ended else end.Cut)
    by true k = rw k (none, rw same k)
    by false k = rw k (none, rw same k)

-- neither end failed
pub calm : (old new : EndsState) → new.client.source.faults ≡ old.client.source.faults → new.client_out.faults ≡ old.client_out.faults → faults_of new ≡ faults_of old
calm old new i o = rw (i, o) refl

-- the bytes ended quietly
pub end_cause : (old new : Faults) (bytes : List ℕ) → new ≡ old → EndCause old new (end_of_bytes bytes)
end_cause old new bytes e = by (only_empty bytes)
  where
    by : (b : Bool) → EndCause old new (if b then end.Ended else end.Cut)
    by true = e
    by false = e

-- the faults of an exchange, by how it was concluded
cause_by : (old new : EndsState) (last tunnel : Bool) (x : Ending) (a : After) → ClientReadCause old.client.source new.client.source a → WriteCauseAfter old.client_out new.client_out x a
    → TurnCause (faults_of old) (faults_of new) (end_by last tunnel a)
cause_by old new true tunnel x after.Keep i o = calm old new i o
cause_by old new false tunnel x after.Keep i o = calm old new i o
cause_by old new true true x after.Close i o = calm old new i o
cause_by old new true false x after.Close i o = calm old new i o
cause_by old new false tunnel x after.Close i o = calm old new i o
cause_by old new last tunnel x after.Cut i o = calm old new i o
cause_by old new last tunnel x after.ReadFailed i o = i
cause_by old new last tunnel x after.WriteFailed i o = (i, o)
cause_by old new last tunnel x after.NoMemory i o = tt

no : true ≡ false → ⊥
no h = cc

-- whether the client's sink is as open behind it
open_by : (old new : SinkState) (last : Bool) (x : Ending) (a : After) → StaysOpenAfter old new x a → TurnStaysOpen old new (end_by last (is_tunnel x) a)
open_by old new true x after.Keep h = h
open_by old new false x after.Keep h = h
open_by old new true x after.Close h = by (is_tunnel x) refl
  where
    by : (t : Bool) → is_tunnel x ≡ t → SessionStaysOpen old new (if not t then end.Spent else end.Closed)
    by true k = tt
    by false k = h (λ e. no (rw e at k))
open_by old new false x after.Close h = tt
open_by old new last x after.Cut h = h
open_by old new last x after.ReadFailed h = tt
open_by old new last x after.WriteFailed h = tt
open_by old new last x after.NoMemory h = tt

-- a session goes on only behind a request that wasn't the last
goes_on_below : (n : ℕ) (tunnel : Bool) (a : After) → n < REQUEST_LIMIT → end_by (is_last_request n) tunnel a ≡ None → n + 1 < REQUEST_LIMIT
goes_on_below n tunnel after.Keep h e = by (is_last_request n) refl e
  where
    by : (b : Bool) → (n + 1 == REQUEST_LIMIT) ≡ b → (if b then Some end.Spent else None) ≡ None → n + 1 < REQUEST_LIMIT
    by true k f = absurd (cc)
    by false k f = grind (arith, h, k)
goes_on_below n tunnel after.Close h e = absurd (cc)
goes_on_below n tunnel after.Cut h e = absurd (cc)
goes_on_below n tunnel after.ReadFailed h e = absurd (cc)
goes_on_below n tunnel after.WriteFailed h e = absurd (cc)
goes_on_below n tunnel after.NoMemory h e = absurd (cc)

-- an end at which nothing was done with the client's sink
stays_open : (o : SinkState) (e : SessionEnd) → SessionStaysOpen o o e
stays_open o end.Ended = refl
stays_open o end.Cut = refl
stays_open o end.Spent = refl
stays_open o end.Closed = tt
stays_open o end.ReadFailed = tt
stays_open o end.WriteFailed = tt
stays_open o end.NoMemory = tt

some_is : {A : Type 0} (x y : A) → Some x ≡ Some y → x ≡ y
some_is x y e = ap (λ o. unwrap_or o x) e

none_some : {A : Type 0} (x : A) → Some x ≡ None → ⊥
none_some x e = cc

-- what was measured of a sink that tells is what was returned
returned_so : (on : Bool) (taken : List ℕ) (new : SinkState) (r : Option Tally) → IsTrue new.tells → IsMeasured on taken new r → IsReturned taken new.taken r
returned_so on taken new None told h = tt
returned_so true taken new (Some r) told h = some_is r (returned_of (drop (length taken) new.taken)) (h.told refl told)
returned_so false taken new (Some r) told h = absurd (none_some r (h.off refl))

-- a turn with one exchange: k is the client behind the request's head, and c the clock behind its moment
turned_behind : (law : Law) (ins ins' : InsideState) (looks looks' : Looks) (old new : EndsState) (k : FeedState) (c : ClockState) (on : Bool) (b : Begun) (notes notes' : List ExchangeNote)
    → length notes < REQUEST_LIMIT
    → (IsTrue old.client.source.tells → HeadOf (client_stream old) b.seen (bytes_behind k))
    → k.source.faults ≡ old.client.source.faults → SourceGoesOn old.client.source k.source
    → TakesOne looks looks' old.clock c b → ClockGoesOn old.clock c
    → ReadsReceived b.seen b.received → All (SuitsBegun law old.peer) (b ∷ []) → Fits ins ins' old.peer (b ∷ [])
    → AnswersBetween b.config (handed_of (is_last_request (length notes)) b.moment b.received) on (record old { client = k; clock = c }) new b.concluded b.returned
    → notes' ≡ notes ++ note_of b ∷ []
    → Turned law ins ins' looks looks' old new notes notes' (end_after (is_last_request (length notes)) b.concluded)
turned_behind law ins ins' looks looks' old new k c on b notes notes' limit found unfailed source_on takes clock_on reads lawful fits x noted = record {
  begun = b ∷ [];
  noted = noted;
  lawful = lawful;
  fits = fits;
  history = λ first clock before h. noted_more first looks looks' clock old.clock new.clock before b (rw x.clock_same takes) h;
  turns = λ t before. by before (end_after (is_last_request n) b.concluded) refl (step t before);
  one_more = λ _. ap (λ (zs : List ExchangeNote). length zs) noted ∙ length-append notes (note_of b ∷ []);
  below = goes_on_below n (is_tunnel b.concluded.ending) b.concluded.after limit;
  cause = rw (sym quiet) (cause_by mid new (is_last_request n) (is_tunnel b.concluded.ending) b.concluded.ending b.concluded.after x.read_cause x.write_cause);
  still_open = open_by old.client_out new.client_out (is_last_request n) b.concluded.ending b.concluded.after x.still_open;
  goes_on = ends_go_on went x.goes_on;
}
  where
    n : ℕ
    n = length notes

    mid : EndsState
    mid = record old { client = k; clock = c }

    quiet : faults_of mid ≡ faults_of old
    quiet = calm old mid unfailed refl

    went : EndsGoOn old mid
    went = let same = ends_same old in record { client = source_on; client_out = same.client_out; dialer = same.dialer; clock = clock_on; peer_same = refl }

    step : Tell old → (before : List Begun) → SessionStep old.peer n (session_state old before) (session_state new (before ++ b ∷ [])) b
    step t before = record {
      rest = bytes_behind k;
      head = found t.client;
      reads = reads;
      returns = returned_so on old.client_out.taken new.client_out b.returned (x.goes_on.client_out.tells_same ∙ t.client_out) x.returns;
      noted = refl;
      answers = x.answers (tell_on went t);
    }

    by : (before : List Begun) (e : Option SessionEnd) → e ≡ end_after (is_last_request n) b.concluded
        → SessionStep old.peer n (session_state old before) (session_state new (before ++ b ∷ [])) b
        → SessionTurns old.peer n (session_state old before) (session_state new (before ++ b ∷ [])) new.client.source.left e
    by before None is s = record { begun = b; step = s; goes_on = sym is }
    by before (Some e) is s = inr (record { begun = b; step = s; ends = sym is })

-- the same: e1 are the ends behind the request's head
pub turned_one : (law : Law) (ins ins' : InsideState) (looks looks' : Looks) (old e1 new : EndsState) (c : ClockState) (on : Bool) (b : Begun) (notes notes' : List ExchangeNote)
    → length notes < REQUEST_LIMIT → TakesHead old e1 (Ok b.seen) → TakesOne looks looks' e1.clock c b → ClockGoesOn e1.clock c
    → ReadsReceived b.seen b.received → All (SuitsBegun law e1.peer) (b ∷ []) → Fits ins ins' e1.peer (b ∷ [])
    → AnswersBetween b.config (handed_of (is_last_request (length notes)) b.moment b.received) on (record e1 { clock = c }) new b.concluded b.returned
    → notes' ≡ notes ++ note_of b ∷ []
    → Turned law ins ins' looks looks' old new notes notes' (end_after (is_last_request (length notes)) b.concluded)
turned_one law ins ins' looks looks' old e1 new c on b notes notes' limit h takes clock_on reads lawful fits x noted =
    turned_behind law ins ins' looks looks' old new e1.client c on b notes notes' limit h.found (ap (λ (f : Faults). f.source) h.cause) h.goes_on
    (subst (λ (t : ClockState). TakesOne looks looks' t c b) clock1 takes) (subst (λ (t : ClockState). ClockGoesOn t c) clock1 clock_on)
    reads (subst (λ (p : List ℕ). All (SuitsBegun law p) (b ∷ [])) peer1 lawful) (subst (λ (p : List ℕ). Fits ins ins' p (b ∷ [])) peer1 fits)
    (subst (λ (e : EndsState). AnswersBetween b.config (handed_of (is_last_request (length notes)) b.moment b.received) on (record e { client = e1.client; clock = c }) new b.concluded b.returned) h.rest x) noted
  where
    clock1 : e1.clock ≡ old.clock
    clock1 = ap (λ (e : EndsState). e.clock) h.rest

    peer1 : e1.peer ≡ old.peer
    peer1 = ap (λ (e : EndsState). e.peer) h.rest

-- a turn that ends the session before an exchange
none_behind : (law : Law) (ins : InsideState) (looks : Looks) (old : EndsState) (k : FeedState) (notes : List ExchangeNote) (e : SessionEnd)
    → (IsTrue old.client.source.tells → EndsBetween (client_stream old) k.source.left e) → EndCause (faults_of old) (faults_of (record old { client = k })) e → SourceGoesOn old.client.source k.source
    → Turned law ins ins looks looks old (record old { client = k }) notes notes (Some e)
none_behind law ins looks old k notes e why cause on = record {
  begun = [];
  noted = sym (append-nil notes);
  history = λ first clock before h. noted_none first looks clock old.clock before h;
  lawful = All-nil (SuitsBegun law old.peer);
  fits = fits_none ins old.peer;
  turns = λ t before. inl (record { undialled = refl; unreturned = refl; unbegun = append-nil before; why = why t.client });
  one_more = λ x. absurd (cc);
  below = λ x. absurd (cc);
  cause = cause;
  still_open = stays_open old.client_out e;
  goes_on = let same = ends_same old in record { client = on; client_out = same.client_out; dialer = same.dialer; clock = same.clock; peer_same = refl };
}

pub turned_none : (law : Law) (ins : InsideState) (looks : Looks) (old new : EndsState) (notes : List ExchangeNote) (e : SessionEnd) → TakesHead old new (Err e)
    → Turned law ins ins looks looks old new notes notes (Some e)
turned_none law ins looks old new notes e h =
    subst (λ (n : EndsState). Turned law ins ins looks looks old n notes notes (Some e)) (sym h.rest)
    (none_behind law ins looks old new.client notes e h.found (subst (λ (n : EndsState). EndCause (faults_of old) (faults_of n) e) h.rest h.cause) h.goes_on)

-- what the loop of a session keeps, behind so many exchanges
pub record Serving (law : Law) (ins ins' : InsideState) (first last : Looks) (old now : EndsState) (notes : List ExchangeNote) : Type 0 where
  pub below : length notes < REQUEST_LIMIT
  pub begun : List Begun
  pub notes_are : notes ≡ map note_of begun
  pub noted : Noted first last old.clock now.clock begun
  pub reached : Tell old → Reaches old.peer (session_state old []) (length notes) (session_state now begun)
  pub lawful : All (SuitsBegun law old.peer) begun
  pub fits : Fits ins ins' old.peer begun
  pub unfailed : faults_of now ≡ faults_of old
  pub still_open : now.client_out.finished ≡ old.client_out.finished
  pub goes_on : EndsGoOn old now

notes_on : (notes notes' : List ExchangeNote) (begun more : List Begun) → notes ≡ map note_of begun → notes' ≡ notes ++ map note_of more → notes' ≡ map note_of (begun ++ more)
notes_on notes notes' begun more e k = k ∙ ap (λ (ns : List ExchangeNote). ns ++ map note_of more) e ∙ sym (map-append note_of begun more)

-- before the first request
pub serving_none : {law : Law} {ins : InsideState} {looks : Looks} {old : EndsState} {notes : List ExchangeNote} → notes ≡ [] → Serving law ins ins looks looks old old notes
serving_none {law = law} {ins = ins} {looks = looks} {old = old} e = rw e (record {
  below = omega arith;
  begun = [];
  notes_are = refl;
  noted = none_noted looks old.clock;
  reached = λ t. refl;
  lawful = All-nil (SuitsBegun law old.peer);
  fits = fits_none ins old.peer;
  unfailed = refl;
  still_open = refl;
  goes_on = ends_same old;
})

-- the turn, as one of the client that called at first
turn_of : (old now new : EndsState) (n : ℕ) (before begun : List Begun) (e : Option SessionEnd) → now.peer ≡ old.peer
    → SessionTurns now.peer n (session_state now before) (session_state new begun) new.client.source.left e
    → SessionTurns old.peer n (session_state now before) (session_state new begun) new.client.source.left e
turn_of old now new n before begun e same t =
    subst (λ (p : List ℕ). SessionTurns p n (session_state now before) (session_state new begun) new.client.source.left e) same t

-- the session goes on behind one more exchange
pub serving_on : {law : Law} {ins mid ins' : InsideState} {first looks looks' : Looks} {old now new : EndsState} {notes notes' : List ExchangeNote}
    → Serving law ins mid first looks old now notes → Turned law mid ins' looks looks' now new notes notes' None → Serving law ins ins' first looks' old new notes'
serving_on {law = law} {ins = ins} {mid = mid} {ins' = ins'} {first = first} {old = old} {now = now} {new = new} {notes = notes} {notes' = notes'} s t = record {
  below = rw (t.one_more refl) (t.below refl);
  begun = s.begun ++ t.begun;
  notes_are = notes_on notes notes' s.begun t.begun s.notes_are t.noted;
  noted = t.history first old.clock s.begun s.noted;
  reached = λ tell. rw (t.one_more refl, add-one (length notes)) (session_state now s.begun, s.reached tell, turn_of old now new (length notes) s.begun (s.begun ++ t.begun) None s.goes_on.peer_same (t.turns (tell_on s.goes_on tell) s.begun));
  lawful = lawful_more law now.peer old.peer s.begun t.begun s.goes_on.peer_same s.lawful t.lawful;
  fits = fits_more ins mid ins' now.peer old.peer s.begun t.begun s.goes_on.peer_same s.fits t.fits;
  unfailed = t.cause ∙ s.unfailed;
  still_open = t.still_open ∙ s.still_open;
  goes_on = ends_go_on s.goes_on t.goes_on;
}

-- whether the sink is as open, behind exchanges that left it so
open_on : (old now new : SinkState) (e : SessionEnd) → now.finished ≡ old.finished → SessionStaysOpen now new e → SessionStaysOpen old new e
open_on old now new end.Ended s h = h ∙ s
open_on old now new end.Cut s h = h ∙ s
open_on old now new end.Spent s h = h ∙ s
open_on old now new end.Closed s h = tt
open_on old now new end.ReadFailed s h = tt
open_on old now new end.WriteFailed s h = tt
open_on old now new end.NoMemory s h = tt

-- the session ends
pub runs_to : {law : Law} {ins mid ins' : InsideState} {first looks looks' : Looks} {old now new : EndsState} {notes notes' : List ExchangeNote} {e : SessionEnd}
    → Serving law ins mid first looks old now notes → Turned law mid ins' looks looks' now new notes notes' (Some e) → Runs law ins ins' first looks' old new notes' e
runs_to {law = law} {ins = ins} {mid = mid} {ins' = ins'} {first = first} {old = old} {now = now} {new = new} {notes = notes} {notes' = notes'} {e = e} s t = record {
  begun = s.begun ++ t.begun;
  notes_are = notes_on notes notes' s.begun t.begun s.notes_are t.noted;
  noted = t.history first old.clock s.begun s.noted;
  session = λ tell. record {
    kept = length notes;
    middle = session_state now s.begun;
    rest = client_stream new;
    reached = s.reached tell;
    ended = turn_of old now new (length notes) s.begun (s.begun ++ t.begun) (Some e) s.goes_on.peer_same (t.turns (tell_on s.goes_on tell) s.begun);
  };
  lawful = lawful_more law now.peer old.peer s.begun t.begun s.goes_on.peer_same s.lawful t.lawful;
  fits = fits_more ins mid ins' now.peer old.peer s.begun t.begun s.goes_on.peer_same s.fits t.fits;
  cause = subst (λ (f : Faults). EndCause f (faults_of new) e) s.unfailed t.cause;
  still_open = open_on old.client_out now.client_out new.client_out e s.still_open t.still_open;
  goes_on = ends_go_on s.goes_on t.goes_on;
}

-- memory was wanting before anything was read
pub runs_none : {law : Law} {ins : InsideState} {looks : Looks} {old : EndsState} (notes : List ExchangeNote) → notes ≡ [] → Runs law ins ins looks looks old old notes end.NoMemory
runs_none {law = law} {ins = ins} {looks = looks} {old = old} notes e = record {
  begun = [];
  notes_are = e;
  noted = none_noted looks old.clock;
  session = λ t. record { kept = 0; middle = session_state old []; rest = client_stream old; reached = refl; ended = inl (record { undialled = refl; unreturned = refl; unbegun = refl; why = tt }) };
  lawful = All-nil (SuitsBegun law old.peer);
  fits = fits_none ins old.peer;
  cause = tt;
  still_open = tt;
  goes_on = ends_same old;
}

-- the client's sink is finished behind the session
pub serves_behind : {law : Law} {ins ins' : InsideState} {looks looks' : Looks} {old mid : EndsState} {o : SinkState} {notes : List ExchangeNote} {e : SessionEnd}
    → Runs law ins ins' looks looks' old mid notes e → Finishes mid.client_out o → SinkGoesOn mid.client_out o → ServesFitting law ins ins' looks looks' old (record mid { client_out = o }) notes e
serves_behind {law = law} {old = old} {mid = mid} {o = o} {e = e} r f on = record {
  serves = record {
    begun = r.begun;
    notes_are = r.notes_are;
    noted = r.noted;
    session = λ t. rw f.taken_same (r.session t);
    lawful = r.lawful;
    cause = rw f.faults_same r.cause;
    finished = λ t. f.finished (r.goes_on.client_out.tells_same ∙ t);
    goes_on = record { client = r.goes_on.client; client_out = sink_goes_on r.goes_on.client_out on; dialer = r.goes_on.dialer; clock = r.goes_on.clock; peer_same = r.goes_on.peer_same };
  };
  fits = r.fits;
}
