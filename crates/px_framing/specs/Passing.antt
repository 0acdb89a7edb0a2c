-- A body that is passed on: whole elements as they come, whatever data they hold.
use Rattle.std.specs.Prelude.{◌≡◌, ◌≢◌, ℕ, ◌+◌, ◌<◌, ◌≤◌, ◌==◌, min, Bool, true, false, List, [], ◌++◌, length, take, IsTrue, if◌then◌else◌}
use Rattle.px_framing.specs.declared.TheConstants.{LINE_LIMIT}
use Rattle.px_framing.specs.declared.places.ChunkPlace.{ChunkPlace}
use Rattle.px_framing.specs.Body.{Part}
use Rattle.px_framing.specs.declared.stages.Stage.{Stage}
use Rattle.px_framing.specs.declared.stages.Stage.TheVariants as stage
use Rattle.px_framing.specs.declared.places.State.{State}
use Rattle.px_framing.specs.declared.places.State.TheVariants.{More, Whole, Cut, Misframed}
use Rattle.px_framing.specs.declared.advances.Far.{Far}
use Rattle.px_framing.specs.declared.lines.WholeLine.{WholeLine}
use Rattle.px_framing.specs.declared.passes.Gone.{Gone}
use Rattle.px_framing.specs.Elements.{AreWhole}
use Rattle.px_framing.specs.Lines.{place_after_line, may_stand}
use Rattle.px_framing.specs.Reading.{before, goes_on, is_last, is_to_close, reads, reads_on, stage_state, IsHeld, IsSettledAt, KeepsKind, Reading, Uses}
use Rattle.px_head.specs.Prints.{crlf}

-- From place, behind the bytes kept, these bytes were taken, and those put out are of whole elements. What all bytes are read to
-- is the same before and behind.
pub record Goes (place : ChunkPlace) (kept bytes put : List ℕ) (next : ChunkPlace) (kept' : List ℕ) : Type 0 where
  pub data_put : List ℕ
  pub same : (rest : List ℕ) → reads place kept (bytes ++ rest) ≡ before put data_put (length bytes) (reads next kept' rest)

-- From place, behind the bytes kept, a step took bytes at the front of these. Where a whole element ends with them, nothing is kept
-- any more, and else, where more may come, all of them.
pub record StepsOn (place : ChunkPlace) (kept bytes : List ℕ) (gone : Gone) (kept' : List ℕ) : Type 0 where
  pub used : (0 < gone.used) × (gone.used ≤ length bytes)
  pub held : IsHeld gone.next kept'
  pub goes : Goes place kept (take gone.used bytes) (if gone.ends then kept ++ take gone.used bytes else []) gone.next kept'
  pub fresh : gone.ends ≡ true → kept' ≡ []
  pub grows : gone.ends ≡ false → is_last gone.next ≡ false → kept' ≡ kept ++ take gone.used bytes

-- a whole line that may stand at this place is at the front of these bytes
pub record IsLineAt (place : ChunkPlace) (bytes : List ℕ) (line : WholeLine) : Type 0 where
  pub within : line.text_len + 2 ≤ length bytes
  pub text_and_end : take (line.text_len + 2) bytes ≡ take line.text_len bytes ++ crlf
  pub stands : IsTrue (may_stand place (take line.text_len bytes))
  pub next_is : line.next ≡ place_after_line place (take line.text_len bytes)

-- the bytes kept and the first bytes of a piece, up to the end of its last whole element; nothing where none ends in it
abbrev pub settled : List ℕ → List ℕ → ℕ → List ℕ
settled kept piece whole = if whole == 0 then [] else kept ++ take whole piece

-- room for an unfinished line, where the bytes kept and a piece are so many
abbrev pub HasLineRoom : Stage → ℕ → ℕ → Type 0
HasLineRoom (stage.Ended state) bytes capacity = Unit {0}
HasLineRoom (stage.Bytes left) bytes capacity = Unit {0}
HasLineRoom (stage.Rest room) bytes capacity = Unit {0}
HasLineRoom (stage.Chunks place room) bytes capacity = min LINE_LIMIT bytes ≤ capacity

-- the data of settled bytes: all of them, but for chunks
abbrev pub IsDataOf : Stage → List ℕ → List ℕ → Type 0
IsDataOf (stage.Ended state) bytes data_bytes = bytes ≡ data_bytes
IsDataOf (stage.Bytes left) bytes data_bytes = bytes ≡ data_bytes
IsDataOf (stage.Rest room) bytes data_bytes = bytes ≡ data_bytes
IsDataOf (stage.Chunks place room) bytes data_bytes = AreWhole place bytes data_bytes

-- the data of the bytes to come
abbrev pub data_in : Reading → List ℕ → List ℕ
data_in r bytes = (goes_on r bytes).plain

-- the bytes of whole elements among the bytes to come, behind those kept
abbrev pub raw_in : Reading → List ℕ → List ℕ
raw_in r bytes = (goes_on r bytes).raw

-- From a stage, behind the bytes kept, so many bytes of a piece were used, and these put out. What all bytes are read to is the
-- same before and behind.
pub record PassesOn (old : Stage) (kept piece put : List ℕ) (used : ℕ) (new : Stage) (kept' : List ℕ) : Type 0 where
  pub data_put : List ℕ
  pub same : (rest : List ℕ) → reads_on old kept (piece ++ rest) ≡ before put data_put used (reads_on new kept' rest)
  pub kind : KeepsKind old new

-- the most bytes that a stage may still take
abbrev pub bytes_left : Stage → ℕ
bytes_left (stage.Ended state) = 0
bytes_left (stage.Bytes left) = left
bytes_left (stage.Rest room) = room
bytes_left (stage.Chunks place room) = room

-- how a piece is passed from a stage, behind the bytes kept
pub record Passes (old : Stage) (kept piece : List ℕ) (far : Far) (kept' : List ℕ) : Type 0 where
  pub passes : PassesOn old kept piece (settled kept piece far.whole) far.used far.stage kept'
  pub settled_stage : IsSettledAt far.stage kept'
  pub short : length kept' ≤ LINE_LIMIT
  pub whole : far.whole ≤ far.used
  pub used : Uses piece far.used (stage_state far.stage)
  pub left : stage_state far.stage ≡ More → bytes_left far.stage + far.used ≡ bytes_left old
  pub stays : stage_state old ≢ More → (far.used ≡ 0) × (far.stage ≡ old) × (kept' ≡ kept)

-- how a body stands that stood so where its bytes end
abbrev pub last_state : Bool → State → State
last_state to_close More = if to_close then Whole else Cut
last_state to_close Whole = Whole
last_state to_close Cut = Cut
last_state to_close Misframed = Misframed

-- what bytes to come are read to, where they are the last
abbrev pub due_part : Reading → List ℕ → Part
due_part r rest = record (goes_on r rest) { state = last_state (is_to_close r.stage) (goes_on r rest).state }
