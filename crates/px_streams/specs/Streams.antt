-- Streams: what reading from a source gives, and what stands at the front of what is left.
use Rattle.std.specs.Prelude.{◌≡◌, ℕ, Bool, true, false, List, ◌++◌, length, IsTrue, Result, MatchResult}
use Rattle.px_base.specs.Causes.{Rose}
use Rattle.px_base.specs.Sources.{SourceState, SourceGoesOn}
use Rattle.px_head.specs.Blocks.{head_end}
use Rattle.px_head.specs.declared.blocks.HeadEnd.TheVariants as end
use Rattle.px_streams.specs.declared.ahead.ReadFault.{ReadFault}
use Rattle.px_streams.specs.declared.ahead.ReadFault.TheVariants as fault
use Rattle.px_streams.specs.declared.fronts.StreamFront.{StreamFront}
use Rattle.px_streams.specs.declared.fronts.StreamFront.TheVariants as front

-- no byte was lost between what was read ahead and what is left
abbrev pub KeepsBytes : SourceState → SourceState → List ℕ → List ℕ → Type 0
KeepsBytes old new ahead ahead' = IsTrue old.tells → ahead ++ old.left ≡ ahead' ++ new.left

-- what a fault says of the source's count
abbrev pub ReadFaultCause : SourceState → SourceState → ReadFault → Type 0
ReadFaultCause old new fault.Failed = Rose old.faults new.faults
ReadFaultCause old new fault.Mem = new.faults ≡ old.faults

-- Failed comes only where the count rose, and every other answer leaves it
abbrev pub ReadCause : {T : Type 0} → SourceState → SourceState → Result T ReadFault → Type 0
ReadCause old new result = MatchResult result (λ _. new.faults ≡ old.faults) (λ f. ReadFaultCause old new f)

-- the stream of a call: the bytes that were left at its entry, or, where its source failed in it, those that were given in it
abbrev pub IsStream : Bool → List ℕ → List ℕ → List ℕ → Type 0
IsStream true bytes left left' = left ≡ bytes ++ left'
IsStream false bytes left left' = bytes ≡ left

-- what stands at the front of a stream, and what is left behind it
abbrev pub StandsAtFront : ℕ → List ℕ → StreamFront → List ℕ → Type 0
StandsAtFront limit stream (front.Block block) rest = (head_end limit stream ≡ end.At (length block)) × (stream ≡ block ++ rest)
StandsAtFront limit stream front.Over rest = (head_end limit stream ≡ end.Over) × (rest ≡ stream)
StandsAtFront limit stream front.End rest = (head_end limit stream ≡ end.NotYet) × (rest ≡ stream)

-- what a loop of reads keeps: no byte was lost, and nothing failed
pub record KeptStream (old new : SourceState) (ahead ahead' : List ℕ) : Type 0 where
  pub bytes : KeepsBytes old new ahead ahead'
  pub faults_same : new.faults ≡ old.faults
  pub goes_on : SourceGoesOn old new
