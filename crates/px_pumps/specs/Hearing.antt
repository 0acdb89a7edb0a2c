-- Hearing: what is returned of a link's bytes, read and passed on in pieces.
use Rattle.std.specs.Prelude.{◌≡◌, ℕ, Bool, ◌⊎◌, IsTrue, List, [], ◌++◌, MatchBool, Result, MatchResult}
use Rattle.px_base.specs.Causes.{Rose}
use Rattle.px_base.specs.Sources.{SourceState, SourceGoesOn}
use Rattle.px_base.specs.Sinks.{SinkState, SinkGoesOn, AddsProperFront}
use Rattle.px_base.specs.declared.faults.SinkFault.{SinkFault}
use Rattle.px_base.specs.declared.faults.SinkFault.TheVariants as fault
use Rattle.px_streams.specs.Streams.{IsStream}
use Rattle.px_notes.specs.declared.endings.After.TheVariants as after
use Rattle.px_notes.specs.Endings.{broken}
use Rattle.px_pumps.specs.declared.flows.Flow.{Flow}
use Rattle.px_pumps.specs.declared.talks.Talked.{Talked}
use Rattle.px_pumps.specs.declared.talks.Talked.TheVariants as talked
use Rattle.px_pumps.specs.Answering.{Ask, Answered}
use Rattle.px_pumps.specs.Pumps.{Pumping, PumpAfter, Pumped, SoFar, keeps_at}
use Rattle.px_pumps.specs.Returning.{TalkCause, TalkGives, IsHeard}

-- what came of a talk by which that answer is returned
abbrev pub AnswerGives : Ask → List ℕ → Bool → List ℕ → List ℕ → Talked → Type 0
AnswerGives ask bytes failed taken taken' t = TalkGives ask.page_due (Answered ask bytes failed) taken taken' t

-- what is returned of a stream; failed is whether its source failed
pub record HearsStream (ask : Ask) (failed : Bool) (left left' taken taken' : List ℕ) (t : Talked) : Type 0 where
  pub answer : List ℕ
  pub is_answer : IsStream failed answer left left'
  pub gives : AnswerGives ask answer failed taken taken' t

-- what is returned of a link's bytes
pub record Hears (ask : Ask) (i i' : SourceState) (o o' : SinkState) (t : Talked) : Type 0 where
  pub failed : Bool
  pub cause : MatchBool failed (Rose i.faults i'.faults) (i'.faults ≡ i.faults)
  pub stream : IsTrue i.tells → IsTrue o.tells → HearsStream ask failed i.left i'.left o.taken o'.taken t

-- a piece was fed, and what came out was written
pub record FedOn (ask : Ask) (fed put taken taken' : List ℕ) (f : Flow) (p : Pumping) : Type 0 where
  pub more : List ℕ
  pub written : taken' ≡ taken ++ more
  pub after : PumpAfter ask fed (put ++ more) p
  pub pumped : Pumped ask fed (put ++ more) f (keeps_at p.stage)

-- a write was refused: a proper front of what came out was written
pub record CutOff (ask : Ask) (fed put taken taken' : List ℕ) : Type 0 where
  pub more : List ℕ
  pub front : AddsProperFront taken taken' more
  pub so_far : SoFar ask fed (put ++ more)

-- nothing came out, for want of memory
pub record NoMore (ask : Ask) (fed put taken taken' : List ℕ) : Type 0 where
  pub nothing : taken' ≡ taken
  pub so_far : SoFar ask fed put

-- why a piece wasn't fed and written whole
abbrev pub Stopped : Ask → List ℕ → List ℕ → List ℕ → List ℕ → List ℕ → SinkFault → Type 0
Stopped ask fed piece put taken taken' fault.Failed = CutOff ask (fed ++ piece) put taken taken'
Stopped ask fed piece put taken taken' fault.Mem = CutOff ask (fed ++ piece) put taken taken' ⊎ NoMore ask fed put taken taken'

-- what a fault says of the sink's count
abbrev pub PutFaultCause : SinkState → SinkState → SinkFault → Type 0
PutFaultCause old new fault.Failed = Rose old.faults new.faults
PutFaultCause old new fault.Mem = new.faults ≡ old.faults

abbrev pub FeedCause : {T : Type 0} → SinkState → SinkState → Result T SinkFault → Type 0
FeedCause old new result = MatchResult result (λ _. new.faults ≡ old.faults) (λ f. PutFaultCause old new f)

-- what came of a talk in which a write was refused
abbrev pub talk_refused : SinkFault → Talked
talk_refused fault.Failed = talked.Ended (broken after.WriteFailed)
talk_refused fault.Mem = talked.Ended (broken after.NoMemory)

-- a loop's streams: bytes were fed, and others put out
pub record Flows (ask : Ask) (left left' taken taken' : List ℕ) (p : Pumping) : Type 0 where
  pub fed : List ℕ
  pub put : List ℕ
  pub read : left ≡ fed ++ left'
  pub written : taken' ≡ taken ++ put
  pub after : PumpAfter ask fed put p

-- what the loop of the answering part keeps, that began at a pump that was fed nothing
pub record Flowing (first : Pumping) (i i' : SourceState) (o o' : SinkState) (p : Pumping) : Type 0 where
  pub flows : (ask : Ask) → PumpAfter ask [] [] first → IsTrue i.tells → IsTrue o.tells → Flows ask i.left i'.left o.taken o'.taken p
  pub in_faults_same : i'.faults ≡ i.faults
  pub out_faults_same : o'.faults ≡ o.faults
  pub open_ : o'.finished ≡ o.finished
  pub in_goes_on : SourceGoesOn i i'
  pub out_goes_on : SinkGoesOn o o'

-- what came of the whole talk, that began at a pump that was fed nothing
pub record HeardOut (first : Pumping) (i i' : SourceState) (o o' : SinkState) (t : Talked) : Type 0 where
  pub hears : (ask : Ask) → PumpAfter ask [] [] first → Hears ask i i' o o' t
  pub cause : TalkCause o o' t
  pub heard : IsHeard t
  pub open_ : o'.finished ≡ o.finished
  pub in_goes_on : SourceGoesOn i i'
  pub out_goes_on : SinkGoesOn o o'

-- a step of a talk that leads on from wherever it stands
abbrev pub TalkGoesOn : SourceState → SourceState → SinkState → SinkState → Pumping → Pumping → Type 0
TalkGoesOn i i' o o' p p' =
    (first : Pumping) (i0 : SourceState) (o0 : SinkState) → Flowing first i0 i o0 o p → Flowing first i0 i' o0 o' p'

-- a step of a talk that ends it, wherever it stands
abbrev pub EndsHere : SourceState → SourceState → SinkState → SinkState → Pumping → Talked → Type 0
EndsHere i i' o o' p t =
    (first : Pumping) (i0 : SourceState) (o0 : SinkState) → Flowing first i0 i o0 o p → HeardOut first i0 i' o0 o' t
