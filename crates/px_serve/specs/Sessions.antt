-- Sessions: exchanges chained over one client's stream.
use Rattle.std.specs.Prelude.{◌≡◌, ℕ, ◌+◌, ◌<◌, zero, suc, Bool, true, false, ◌==◌, IsTrue, ◌⊎◌, List, [], ◌∷◌, ◌++◌, length, map, Option, None, Some, Result, MatchResult, All}
use Rattle.px_base.specs.Sources.{SourceGoesOn}
use Rattle.px_base.specs.Dials.{DialerState}
use Rattle.px_base.specs.Moments.{ClockState}
use Rattle.px_ends.specs.Ends.{EndsState, EndsGoOn, Tell, client_stream}
use Rattle.px_head.specs.declared.TheConstants.{HEAD_LIMIT}
use Rattle.px_head.specs.Blocks.{head_end}
use Rattle.px_head.specs.declared.blocks.HeadEnd.TheVariants as head
use Rattle.px_notes.specs.declared.sessions.ExchangeNote.{ExchangeNote}
use Rattle.px_notes.specs.declared.sessions.SessionEnd.{SessionEnd}
use Rattle.px_notes.specs.declared.sessions.SessionEnd.TheVariants as end
use Rattle.px_judging.specs.declared.readings.HeadSeen.{HeadSeen}
use Rattle.px_judging.specs.declared.readings.HeadSeen.TheVariants as seen
use Rattle.px_judging.specs.Readings.{ReadsAs}
use Rattle.px_config.specs.Insides.{InsideState, Law}
use Rattle.px_serve.specs.Answering.{AnswersHanded}
use Rattle.px_serve.specs.Logging.{IsReturned}
use Rattle.px_serve.specs.Takings.{Fits, SuitsBegun, handed_of}
use Rattle.px_serve.specs.declared.receiving.Received.{Received}
use Rattle.px_serve.specs.declared.ends.TheConstants.{REQUEST_LIMIT}
use Rattle.px_serve.specs.Ends.{EndCause, SessionStaysOpen, TurnCause, TurnStaysOpen, end_after, faults_of, only_empty}
use Rattle.px_serve.specs.Histories.{Begun, Looks, Noted, note_of}

-- between two requests: the client's bytes that are left, the dialer, what the client's sink has taken, and the exchanges that
-- were begun
pub record SessionState : Type 0 where
  pub stream : List ℕ
  pub dialer : DialerState
  pub taken : List ℕ
  pub begun : List Begun

-- the head at the front of a stream, and what is left behind it
abbrev pub HeadOf : List ℕ → HeadSeen → List ℕ → Type 0
HeadOf stream (seen.Block block) rest = (head_end HEAD_LIMIT stream ≡ head.At (length block)) × (stream ≡ block ++ rest)
HeadOf stream seen.Over rest = (head_end HEAD_LIMIT stream ≡ head.Over) × (rest ≡ stream)

-- the request of that number, from 0, is the last that a connection may have
abbrev pub is_last_request : ℕ → Bool
is_last_request n = n + 1 == REQUEST_LIMIT

-- what was seen reads as what was received, if memory was there
abbrev pub ReadsReceived : HeadSeen → Option Received → Type 0
ReadsReceived seen None = Unit {0}
ReadsReceived seen (Some r) = ReadsAs seen r.reading

-- the exchange of that number, for a client with that address: its head stands at the front of the stream, and it is given what is
-- left behind that
pub record SessionStep (peer : List ℕ) (n : ℕ) (s t : SessionState) (b : Begun) : Type 0 where
  pub rest : List ℕ
  pub head : HeadOf s.stream b.seen rest
  pub reads : ReadsReceived b.seen b.received
  pub returns : IsReturned s.taken t.taken b.returned
  pub noted : t.begun ≡ s.begun ++ b ∷ []
  pub answers : AnswersHanded b.config peer (handed_of (is_last_request n) b.moment b.received) (record { stream = rest; behind = t.stream }) s.dialer t.dialer s.taken t.taken b.concluded

-- an exchange behind which the session goes on
pub record KeepsSession (peer : List ℕ) (n : ℕ) (s t : SessionState) : Type 0 where
  pub begun : Begun
  pub step : SessionStep peer n s t begun
  pub goes_on : end_after (is_last_request n) begun.concluded ≡ None

-- the states that so many exchanges lead to
abbrev pub Reaches : List ℕ → SessionState → ℕ → SessionState → Type 0
Reaches peer s zero t = t ≡ s
Reaches peer s (suc n) t = (m : SessionState) × Reaches peer s n m × KeepsSession peer n m t

-- why a session ends between two requests; where the source failed, the bytes that came hold no whole head
abbrev pub EndsBetween : List ℕ → List ℕ → SessionEnd → Type 0
EndsBetween stream left end.Ended = (head_end HEAD_LIMIT stream ≡ head.NotYet) × (only_empty stream ≡ true)
EndsBetween stream left end.Cut = (head_end HEAD_LIMIT stream ≡ head.NotYet) × (only_empty stream ≡ false)
EndsBetween stream left end.ReadFailed = (came : List ℕ) × (stream ≡ came ++ left) × (head_end HEAD_LIMIT came ≡ head.NotYet)
EndsBetween stream left end.NoMemory = Unit {0}
EndsBetween stream left end.Closed = ⊥
EndsBetween stream left end.Spent = ⊥
EndsBetween stream left end.WriteFailed = ⊥

-- a session that ends between two requests: nothing more is dialled or returned
pub record Stops (s t : SessionState) (left : List ℕ) (e : SessionEnd) : Type 0 where
  pub undialled : t.dialer ≡ s.dialer
  pub unreturned : t.taken ≡ s.taken
  pub unbegun : t.begun ≡ s.begun
  pub why : EndsBetween s.stream left e

-- a session that ends behind an exchange
pub record ClosesSession (peer : List ℕ) (n : ℕ) (s t : SessionState) (e : SessionEnd) : Type 0 where
  pub begun : Begun
  pub step : SessionStep peer n s t begun
  pub ends : end_after (is_last_request n) begun.concluded ≡ Some e

-- how a session ends behind so many exchanges; `left` are the client's bytes that its source has left
abbrev pub EndsSession : List ℕ → ℕ → SessionState → SessionState → List ℕ → SessionEnd → Type 0
EndsSession peer n s t left e = Stops s t left e ⊎ ClosesSession peer n s t e

-- one more exchange, or an end
abbrev pub SessionTurns : List ℕ → ℕ → SessionState → SessionState → List ℕ → Option SessionEnd → Type 0
SessionTurns peer n s t left None = KeepsSession peer n s t
SessionTurns peer n s t left (Some e) = EndsSession peer n s t left e

-- where a session begins
abbrev pub begin : List ℕ → DialerState → List ℕ → SessionState
begin stream dialer taken = record { stream = stream; dialer = dialer; taken = taken; begun = [] }

-- a session over a client's bytes: those left before and after, the dialer before and after, what the client's sink had taken
-- before and after, the exchanges that were begun and the end
pub record IsSession (peer : List ℕ) (stream left : List ℕ) (old new : DialerState) (taken taken' : List ℕ) (begun : List Begun) (e : SessionEnd) : Type 0 where
  pub kept : ℕ
  pub middle : SessionState
  pub rest : List ℕ
  pub reached : Reaches peer (begin stream old taken) kept middle
  pub ended : EndsSession peer kept middle (record { stream = rest; dialer = new; taken = taken'; begun = begun }) left e

-- between two requests, behind the exchanges that were begun
abbrev pub session_state : EndsState → List Begun → SessionState
session_state e begun = record { stream = client_stream e; dialer = e.dialer; taken = e.client_out.taken; begun = begun }

-- a session between these ends
abbrev pub IsSessionOf : EndsState → EndsState → List Begun → SessionEnd → Type 0
IsSessionOf old new begun e =
    IsSession old.peer (client_stream old) new.client.source.left old.dialer new.dialer old.client_out.taken new.client_out.taken begun e

-- the head at the front of the client's stream was read, or the session ends before it; nothing else was used
pub record TakesHead (old new : EndsState) (r : Result HeadSeen SessionEnd) : Type 0 where
  pub found : IsTrue old.client.source.tells → MatchResult r (λ seen. HeadOf (client_stream old) seen (client_stream new)) (λ e. EndsBetween (client_stream old) new.client.source.left e)
  pub cause : MatchResult r (λ _. faults_of new ≡ faults_of old) (λ e. EndCause (faults_of old) (faults_of new) e)
  pub goes_on : SourceGoesOn old.client.source new.client.source
  pub rest : new ≡ record old { client = new.client }

-- one turn of a session: the exchanges that it began, one or none, what they add to those before, what was taken for them by what
-- gives takings, and how the session ends behind it, if it does
pub record Turned (law : Law) (ins ins' : InsideState) (looks looks' : Looks) (old new : EndsState) (notes notes' : List ExchangeNote) (e : Option SessionEnd) : Type 0 where
  pub begun : List Begun
  pub noted : notes' ≡ notes ++ map note_of begun
  pub history : (first : Looks) (clock : ClockState) (before : List Begun) → Noted first looks clock old.clock before → Noted first looks' clock new.clock (before ++ begun)
  pub turns : Tell old → (before : List Begun) → SessionTurns old.peer (length notes) (session_state old before) (session_state new (before ++ begun)) new.client.source.left e
  pub lawful : All (SuitsBegun law old.peer) begun
  pub fits : Fits ins ins' old.peer begun
  pub one_more : e ≡ None → length notes' ≡ length notes + 1
  pub below : e ≡ None → length notes + 1 < REQUEST_LIMIT
  pub cause : TurnCause (faults_of old) (faults_of new) e
  pub still_open : TurnStaysOpen old.client_out new.client_out e
  pub goes_on : EndsGoOn old new

-- the requests of a session between these ends: the exchanges that they began, whose notes they give, and how it ended; the client's
-- sink isn't finished yet
pub record Runs (law : Law) (ins ins' : InsideState) (looks looks' : Looks) (old new : EndsState) (notes : List ExchangeNote) (e : SessionEnd) : Type 0 where
  pub begun : List Begun
  pub notes_are : notes ≡ map note_of begun
  pub noted : Noted looks looks' old.clock new.clock begun
  pub session : Tell old → IsSessionOf old new begun e
  pub lawful : All (SuitsBegun law old.peer) begun
  pub fits : Fits ins ins' old.peer begun
  pub cause : EndCause (faults_of old) (faults_of new) e
  pub still_open : SessionStaysOpen old.client_out new.client_out e
  pub goes_on : EndsGoOn old new

-- a session between these ends: the exchanges that it began, whose notes it gives, each with a lawful taking, and how it ended; the
-- client was told that no more comes
pub record Serves (law : Law) (looks looks' : Looks) (old new : EndsState) (notes : List ExchangeNote) (e : SessionEnd) : Type 0 where
  pub begun : List Begun
  pub notes_are : notes ≡ map note_of begun
  pub noted : Noted looks looks' old.clock new.clock begun
  pub session : Tell old → IsSessionOf old new begun e
  pub lawful : All (SuitsBegun law old.peer) begun
  pub cause : EndCause (faults_of old) (faults_of new) e
  pub finished : IsTrue old.client_out.tells → IsTrue new.client_out.finished
  pub goes_on : EndsGoOn old new

-- the same, and each taking fits what gave it
pub record ServesFitting (law : Law) (ins ins' : InsideState) (looks looks' : Looks) (old new : EndsState) (notes : List ExchangeNote) (e : SessionEnd) : Type 0 where
  pub serves : Serves law looks looks' old new notes e
  pub fits : Fits ins ins' old.peer serves.begun
