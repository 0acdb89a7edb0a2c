-- What contracts see of the outgoing side of a link.
use Rattle.std.specs.Prelude.{◌≡◌, ℕ, ◌+◌, ◌-◌, ◌≤◌, Bool, false, IsTrue, ◌==◌, ◌&&◌, List, [], ◌++◌, length, take, drop, Result, Ok, Err, MatchResult, Option, Some, None}
use Rattle.px_base.specs.Sources.{SourceState}
use Rattle.px_base.specs.Sinks.{SinkState, Writes, SinkCause, SinkGoesOn}
use Rattle.px_base.specs.Causes.{Rose}
use Rattle.px_base.specs.declared.faults.SinkFault.{SinkFault}
use Rattle.px_base.specs.declared.faults.SinkFault.TheVariants as fault
use Rattle.px_pool_ends.specs.Closings.{IsImage, IsMethodOf}
use Rattle.px_pool_ends.specs.Names.{passed_so_far, lent_mark}
use Rattle.px_pool_ends.specs.Steps.{Decides}
use Rattle.px_base.specs.Lists.{told}

-- the outgoing side of a link
pub record Sending : Type 0 where
  -- the inner sink, and what it and the inner source were when the link was lent
  pub sink : SinkState
  pub begun : SinkState
  pub begun_in : SourceState
  -- where the link was dialled to
  pub host : List ℕ
  pub port : ℕ
  -- the first bytes as they were written, up to the end of the head, and as they go out
  pub head : List ℕ
  pub out : List ℕ
  -- so many of those are sent
  pub at : ℕ
  -- whether they are held back, and whether the line was replaced in them
  pub holding : Bool
  pub replaced : Bool
  -- the method of the head in which it was
  pub method : List ℕ
  -- why a sending of bytes that were taken was refused, the last time that one was
  pub stopped : Option SinkFault
  -- the failures of this side's own writes, and whether its end was said
  pub faults : ℕ
  pub finished : Bool

-- what was taken, and is still to be sent
abbrev pub pending : Sending → List ℕ
pending s = drop s.at s.out

-- what the inner sink took, and will have taken then
abbrev pub taken_and_pending : Sending → List ℕ
taken_and_pending s = s.sink.taken ++ pending s

-- of these, what came behind the head
abbrev pub behind_head : Sending → List ℕ
behind_head s = drop (length s.begun.taken + length s.out) (taken_and_pending s)

-- what was written, and what is sent for it
abbrev pub written_bytes : Sending → List ℕ
written_bytes s = s.head ++ behind_head s

abbrev pub image : Sending → List ℕ
image s = s.out ++ behind_head s

-- the sink that callers see
abbrev pub outer_sink : Sending → SinkState
outer_sink s = record {
  tells = s.sink.tells;
  taken = told s.sink.tells (written_bytes s);
  finished = s.finished;
  faults = s.faults;
  steady = s.sink.steady && (s.sink.faults == 0);
  room = 0;
  mark = lent_mark s.sink.tells s.sink.mark (passed_so_far s.host s.port s.begun_in s.begun);
}

-- the inner sink
abbrev pub inner_sink : Sending → SinkState
inner_sink s = s.sink

-- what is sent of it so far: all but what is held back
abbrev pub sent : Sending → List ℕ
sent s = take (length (image s) - length (pending s)) (image s)

-- why a sending was refused, the last time that one was: this one, if it was, or one before it
abbrev pub last_refusal : Option SinkFault → Result (Unit {0}) SinkFault → Option SinkFault
last_refusal stopped (Ok u) = stopped
last_refusal stopped (Err f) = Some f

-- what stands at each moment
pub record KeepsSending (s : Sending) : Type 0 where
  pub within : s.at ≤ length s.out
  pub decides : Decides s.finished s.holding s.replaced s.head s.out
  pub begins : IsTrue s.sink.tells → taken_and_pending s ≡ s.begun.taken ++ image s
  pub prompt : s.holding ≡ false → s.stopped ≡ None → s.at ≡ length s.out
  pub later : s.begun.faults ≤ s.sink.faults
  pub cause : s.stopped ≡ Some fault.Failed → Rose s.begun.faults s.sink.faults
  pub clean : s.stopped ≡ None → s.faults ≡ 0 → s.sink.faults ≡ s.begun.faults
  pub none_sent : IsTrue s.holding → s.at ≡ 0
  pub none_taken : IsTrue s.holding → IsTrue s.sink.tells → s.sink.taken ≡ s.begun.taken
  pub method : IsTrue s.replaced → IsMethodOf s.head s.method
  pub unfinished : s.finished ≡ false → s.sink.finished ≡ false
  pub passed_on : IsTrue s.finished → IsTrue s.sink.tells → IsTrue s.sink.finished
  pub ended : IsTrue s.finished → IsTrue s.sink.tells → IsImage (written_bytes s) (image s) s.replaced

-- What the inner sink took since the link was lent is what is sent for the bytes written, less what is held back. Nothing is,
-- but the start of a head, while the end wasn't said, and what a sending that was refused left. The end was said to the inner
-- sink exactly where it was said. Where no sending was refused, and no write failed, the inner sink hasn't failed. Where the
-- line is replaced, the method is that of the head.
pub record IsSent (s : Sending) : Type 0 where
  pub is_image : IsImage (outer_sink s).taken (image s) s.replaced
  pub image_is : image s ≡ sent s ++ pending s
  pub joined : s.sink.taken ≡ s.begun.taken ++ sent s
  pub prompt : s.holding ≡ false → s.stopped ≡ None → pending s ≡ []
  pub decided : IsTrue s.replaced → s.holding ≡ false
  pub let_go : IsTrue s.finished → s.holding ≡ false
  pub unfinished : s.finished ≡ false → s.sink.finished ≡ false
  pub passed_on : IsTrue s.finished → IsTrue s.sink.finished
  pub method : IsTrue s.replaced → IsMethodOf s.head s.method
  pub cause : s.stopped ≡ Some fault.Failed → Rose s.begun.faults s.sink.faults
  pub clean : s.stopped ≡ None → s.faults ≡ 0 → s.sink.faults ≡ s.begun.faults

-- bytes that were taken are sent in order, up to a place
pub record SendsBytes (old new : SinkState) (bytes : List ℕ) (from to : ℕ) : Type 0 where
  pub onward : from ≤ to
  pub within : to ≤ length bytes
  pub joined : IsTrue old.tells → new.taken ++ drop to bytes ≡ old.taken ++ drop from bytes
  pub open_same : new.finished ≡ old.finished
  pub goes_on : SinkGoesOn old new

-- bytes are sent in order, up to a place, and then the end is said
pub record FinishesBehind (old new : SinkState) (bytes : List ℕ) (from to : ℕ) : Type 0 where
  pub within : to ≤ length bytes
  pub joined : IsTrue old.tells → new.taken ++ drop to bytes ≡ old.taken ++ drop from bytes
  pub finished : IsTrue old.tells → IsTrue new.finished
  pub goes_on : SinkGoesOn old new

-- all clauses of a write
pub record Wrote (old new : SinkState) (result : Result ℕ SinkFault) (bytes : List ℕ) : Type 0 where
  pub adds : Writes old new result bytes
  pub cause : SinkCause old new (length bytes) result
  pub open_same : new.finished ≡ old.finished
  pub goes_on : SinkGoesOn old new

-- why a sending stopped: the count rose, or memory was wanting
abbrev pub SendingStopsBy : ℕ → ℕ → SinkFault → Type 0
SendingStopsBy old new fault.Failed = Rose old new
SendingStopsBy old new fault.Mem = new ≡ old

abbrev pub StopCause : {T : Type 0} → SinkState → SinkState → Result T SinkFault → Type 0
StopCause old new result = MatchResult result (λ _. new.faults ≡ old.faults) (λ f. SendingStopsBy old.faults new.faults f)
