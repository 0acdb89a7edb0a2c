-- One direction of a tunnel: what its sink takes of the bytes of its source, and why it stopped.
use Rattle.std.specs.Prelude.{◌≡◌, ◌≢◌, ℕ, ◌≤◌, false, IsTrue, List, [], ◌++◌, take, drop, Result, MatchResult}
use Rattle.px_base.specs.Causes.{Rose}
use Rattle.px_base.specs.Sources.{SourceState, SourceGoesOn}
use Rattle.px_base.specs.Sinks.{SinkState, SinkGoesOn}
use Rattle.px_base.specs.declared.faults.SinkFault.{SinkFault}
use Rattle.px_base.specs.declared.faults.SinkFault.TheVariants as fault
use Rattle.px_ways.specs.declared.directions.TheConstants.{DIRECTION_LIMIT}
use Rattle.px_ways.specs.declared.directions.DirectionStop.{DirectionStop}
use Rattle.px_ways.specs.declared.directions.DirectionStop.TheVariants as stop

-- first ones of the bytes were added, so many or fewer
pub record AddsSome (most : ℕ) (bytes taken taken' : List ℕ) : Type 0 where
  pub count : ℕ
  pub within : count ≤ most
  pub added : taken' ≡ taken ++ take count bytes

-- what a sink took of the bytes of a direction: all that a direction carries, or after a fault some of them
abbrev pub DirectionTakes : List ℕ → List ℕ → List ℕ → DirectionStop → Type 0
DirectionTakes bytes taken taken' stop.Whole = taken' ≡ taken ++ take DIRECTION_LIMIT bytes
DirectionTakes bytes taken taken' stop.SourceFailed = AddsSome DIRECTION_LIMIT bytes taken taken'
DirectionTakes bytes taken taken' stop.SinkFailed = AddsSome DIRECTION_LIMIT bytes taken taken'
DirectionTakes bytes taken taken' stop.NoMemory = AddsSome DIRECTION_LIMIT bytes taken taken'

-- the source failed exactly where the direction stopped for that
abbrev pub SourceCause : SourceState → SourceState → DirectionStop → Type 0
SourceCause old new stop.Whole = new.faults ≡ old.faults
SourceCause old new stop.SourceFailed = Rose old.faults new.faults
SourceCause old new stop.SinkFailed = new.faults ≡ old.faults
SourceCause old new stop.NoMemory = new.faults ≡ old.faults

-- the sink failed exactly where the direction stopped for that
abbrev pub StopSinkCause : SinkState → SinkState → DirectionStop → Type 0
StopSinkCause old new stop.Whole = new.faults ≡ old.faults
StopSinkCause old new stop.SourceFailed = new.faults ≡ old.faults
StopSinkCause old new stop.SinkFailed = Rose old.faults new.faults
StopSinkCause old new stop.NoMemory = new.faults ≡ old.faults

-- bytes, those of a source last, were copied to a sink: the source and the sink before and after
pub record Carries (bytes : List ℕ) (i i' : SourceState) (o o' : SinkState) (s : DirectionStop) : Type 0 where
  pub takes : IsTrue i.tells → IsTrue o.tells → DirectionTakes bytes o.taken o'.taken s
  pub source_cause : SourceCause i i' s
  pub sink_cause : StopSinkCause o o' s
  pub source_goes_on : SourceGoesOn i i'
  pub sink_goes_on : SinkGoesOn o o'

-- the same, behind which the sink is finished; a steady sink that is open doesn't fail
pub record Direction (bytes : List ℕ) (i i' : SourceState) (o o' : SinkState) (s : DirectionStop) : Type 0 where
  pub carries : Carries bytes i i' o o' s
  pub finished : IsTrue o.tells → IsTrue o'.finished
  pub calm : IsTrue o.steady → o.finished ≡ false → o'.faults ≡ o.faults

-- why a sink that refused bytes stops a direction
abbrev pub stop_of : SinkFault → DirectionStop
stop_of fault.Failed = stop.SinkFailed
stop_of fault.Mem = stop.NoMemory

-- so many bytes, at most the room of a piece, went from a source to a sink, and none only where none was left
pub record CopiesSome (i i' : SourceState) (o o' : SinkState) (room count : ℕ) : Type 0 where
  pub within : count ≤ room
  pub taken : IsTrue i.tells → IsTrue o.tells → o'.taken ≡ o.taken ++ take count i.left
  pub behind : IsTrue i.tells → i'.left ≡ drop count i.left
  pub end : IsTrue i.tells → count ≡ 0 → i.left ≡ []
  pub source_same : i'.faults ≡ i.faults
  pub sink_same : o'.faults ≡ o.faults

-- a direction stopped in a piece, of which some bytes were added
pub record StopsIn (i i' : SourceState) (o o' : SinkState) (room : ℕ) (s : DirectionStop) : Type 0 where
  pub taken : IsTrue i.tells → IsTrue o.tells → AddsSome room i.left o.taken o'.taken
  pub source_cause : SourceCause i i' s
  pub sink_cause : StopSinkCause o o' s
  pub unfinished : s ≢ stop.Whole

-- what copying a piece does
abbrev pub Copies : SourceState → SourceState → SinkState → SinkState → ℕ → Result ℕ DirectionStop → Type 0
Copies i i' o o' room result = MatchResult result (λ n. CopiesSome i i' o o' room n) (λ s. StopsIn i i' o o' room s)
