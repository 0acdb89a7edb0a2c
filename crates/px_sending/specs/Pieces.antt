-- Sending a body: what was sent behind each piece.
use Rattle.std.specs.Prelude.{◌≡◌, ◌⊎◌, ℕ, ◌+◌, List, [], ◌++◌, length, drop, false, IsTrue, Result, MatchResult}
use Rattle.px_base.specs.Sinks.{SinkState, SinkGoesOn, AddsProperFront}
use Rattle.px_base.specs.Sources.{SourceState, SourceGoesOn}
use Rattle.px_base.specs.Causes.{Rose}
use Rattle.px_base.specs.declared.faults.SinkFault.{SinkFault}
use Rattle.px_base.specs.declared.faults.SinkFault.TheVariants as fault
use Rattle.px_framing.specs.Reading.{ReaderAfter, Reading, Uses}
use Rattle.px_framing.specs.declared.places.State.{State}
use Rattle.px_framing.specs.declared.places.State.TheVariants as state
use Rattle.px_framing.specs.declared.rules.BodyRule.{BodyRule}
use Rattle.px_notes.specs.declared.messages.Message.{Message}
use Rattle.px_notes.specs.declared.messages.Sent.{Sent}
use Rattle.px_notes.specs.declared.messages.Sent.TheVariants as sent

-- the body of a message alone
abbrev pub bare : BodyRule → Message
bare rule = record { head = []; rule = rule; expects = false }

-- Behind bytes that were fed and others that were put out, a piece was fed, what it settles was sent, and what it uses is gone
-- from the bytes read ahead.
pub record PassesPiece (rule : BodyRule) (fed put plain ahead ahead' link link' : List ℕ) (s : State) (r : Reading) : Type 0 where
  pub more : List ℕ
  pub data_more : List ℕ
  pub used : ℕ
  pub uses : Uses ahead used s
  pub left : ahead' ≡ drop used ahead
  pub sent : link' ≡ link ++ more
  pub after : ReaderAfter rule (fed ++ ahead) (put ++ more) (plain ++ data_more) (length fed + used) r

-- a write was refused: a proper front of what the piece settles was sent
pub record StopsInPiece (rule : BodyRule) (fed put plain ahead link link' : List ℕ) : Type 0 where
  pub more : List ℕ
  pub data_more : List ℕ
  pub used : ℕ
  pub reading : Reading
  pub front : AddsProperFront link link' more
  pub after : ReaderAfter rule (fed ++ ahead) (put ++ more) (plain ++ data_more) (length fed + used) reading

-- why a piece wasn't passed on whole; for want of memory nothing of it may have been sent
abbrev pub PieceStopsBy : BodyRule → List ℕ → List ℕ → List ℕ → List ℕ → List ℕ → List ℕ → SinkFault → Type 0
PieceStopsBy rule fed put plain ahead link link' fault.Failed = StopsInPiece rule fed put plain ahead link link'
PieceStopsBy rule fed put plain ahead link link' fault.Mem = StopsInPiece rule fed put plain ahead link link' ⊎ (link' ≡ link)

-- what a fault says of the sink's count
abbrev pub SendFaultCause : SinkState → SinkState → SinkFault → Type 0
SendFaultCause old new fault.Failed = Rose old.faults new.faults
SendFaultCause old new fault.Mem = new.faults ≡ old.faults

abbrev pub PieceCause : {T : Type 0} → SinkState → SinkState → Result T SinkFault → Type 0
PieceCause old new result = MatchResult result (λ _. new.faults ≡ old.faults) (λ f. SendFaultCause old new f)

-- what came of it where a write was refused
abbrev pub link_refused : SinkFault → Sent
link_refused fault.Failed = sent.LinkFailed
link_refused fault.Mem = sent.NoMemory

-- what came of a body that stands so, behind its last byte or at the end of the stream
abbrev pub sent_at : State → Sent
sent_at state.Whole = sent.Whole
sent_at state.Cut = sent.Cut
sent_at state.Misframed = sent.Misframed
sent_at state.More = sent.Cut

-- so far these bytes of the stream were fed, and what they settle was sent
pub record SentSoFar (rule : BodyRule) (stream rest link link' : List ℕ) (r : Reading) : Type 0 where
  pub fed : List ℕ
  pub put : List ℕ
  pub plain : List ℕ
  pub read : stream ≡ fed ++ rest
  pub sent : link' ≡ link ++ put
  pub after : ReaderAfter rule fed put plain (length fed) r

-- what the loop over the pieces of a body keeps
pub record KeepsPieces (rule : BodyRule) (s s' : SourceState) (ahead ahead' : List ℕ) (p p' : SinkState) (r : Reading) : Type 0 where
  pub so_far : IsTrue s.tells → IsTrue p.tells → SentSoFar rule (ahead ++ s.left) (ahead' ++ s'.left) p.taken p'.taken r
  pub in_faults_same : s'.faults ≡ s.faults
  pub link_faults_same : p'.faults ≡ p.faults
  pub open_ : p'.finished ≡ p.finished
  pub in_goes_on : SourceGoesOn s s'
  pub link_goes_on : SinkGoesOn p p'
