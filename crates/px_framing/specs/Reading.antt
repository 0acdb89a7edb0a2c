-- A reader of a body: what the bytes to come will be read to. A body read from its start is read to what `Body` says.
use Rattle.std.specs.Prelude.{◌≡◌, ℕ, ◌+◌, ◌-◌, ◌<◌, ◌≤◌, Bool, true, false, ◌&&◌, ◌==◌, nat_le, nat_lt, slice_index, List, [], ◌∷◌, ◌++◌, length, take, drop, if◌then◌else◌, Vec, vec_len, vec_capacity}
use Rattle.px_framing.specs.declared.places.ChunkPlace.{ChunkPlace}
use Rattle.px_framing.specs.declared.places.ChunkPlace.TheVariants.{Size, Data, Gap, Trailers, Done, Wrong}
use Rattle.px_framing.specs.declared.places.State.{State}
use Rattle.px_framing.specs.declared.places.State.TheVariants.{More, Whole, Cut, Misframed}
use Rattle.px_framing.specs.declared.places.Verdict.{Verdict}
use Rattle.px_framing.specs.declared.places.Verdict.TheVariants as verdict
use Rattle.px_framing.specs.declared.stages.Stage.{Stage}
use Rattle.px_framing.specs.declared.stages.Stage.TheVariants as stage
use Rattle.px_framing.specs.declared.rules.BodyRule.{BodyRule}
use Rattle.px_framing.specs.declared.rules.BodyRule.TheVariants as rule
use Rattle.px_framing.specs.Lines.{may_stand, place_after_line, data_place, IsOpen}
use Rattle.px_framing.specs.Body.{Part, nothing, first_bytes, body_limit}
use Rattle.px_base.specs.Lists.{without_last}

-- what was read before
abbrev pub before : List ℕ → List ℕ → ℕ → Part → Part
before raw plain used p = record { raw = raw ++ p.raw; plain = plain ++ p.plain; used = used + p.used; state = p.state }

-- the last byte is CR
abbrev pub ends_in_cr : List ℕ → Bool
ends_in_cr bytes = nat_lt 0 (length bytes) && slice_index bytes (length bytes - 1) == 13

-- what a byte makes of the line that these bytes begin
unfoldable pub verdict_of : ChunkPlace → List ℕ → ℕ → Verdict
verdict_of place front b =
    if ends_in_cr front
    then (if b == 10 && may_stand place (without_last front) then verdict.Line (place_after_line place (without_last front)) else verdict.Wrong)
    else (if b == 13
    then (if may_stand place front then verdict.Open else verdict.Wrong)
    else (if may_stand place (front ++ b ∷ []) then verdict.Open else verdict.Wrong))

-- one byte further: the bytes and the data that are put out, what comes next, and the bytes of an unfinished line
pub record ByteStep : Type 0 where
  pub raw : List ℕ
  pub plain : List ℕ
  pub next : ChunkPlace
  pub kept : List ℕ

abbrev pub line_step : ChunkPlace → List ℕ → Verdict → ByteStep
line_step place line verdict.Open = record { raw = []; plain = []; next = place; kept = line }
line_step place line (verdict.Line next) = record { raw = line; plain = []; next = next; kept = [] }
line_step place line verdict.Wrong = record { raw = []; plain = []; next = Wrong; kept = [] }

abbrev pub step : ChunkPlace → List ℕ → ℕ → ByteStep
step (Data n) kept b = record { raw = b ∷ []; plain = b ∷ []; next = data_place (n - 1); kept = [] }
step Size kept b = line_step Size (kept ++ b ∷ []) (verdict_of Size kept b)
step Gap kept b = line_step Gap (kept ++ b ∷ []) (verdict_of Gap kept b)
step (Trailers n) kept b = line_step (Trailers n) (kept ++ b ∷ []) (verdict_of (Trailers n) kept b)
step Done kept b = record { raw = []; plain = []; next = Done; kept = [] }
step Wrong kept b = record { raw = []; plain = []; next = Wrong; kept = [] }

-- how a chunked body stands before this place
abbrev pub place_state : ChunkPlace → State
place_state Size = More
place_state (Data n) = More
place_state Gap = More
place_state (Trailers n) = More
place_state Done = Whole
place_state Wrong = Misframed

-- nothing comes after this place
abbrev pub is_last : ChunkPlace → Bool
is_last Size = false
is_last (Data n) = false
is_last Gap = false
is_last (Trailers n) = false
is_last Done = true
is_last Wrong = true

-- what bytes are read to from a place, behind the bytes of an unfinished line
unfoldable pub reads : ChunkPlace → List ℕ → List ℕ → Part
reads place kept [] = nothing (place_state place)
reads place kept (b ∷ bs) =
    if is_last place then nothing (place_state place)
    else before (step place kept b).raw (step place kept b).plain 1 (reads (step place kept b).next (step place kept b).kept bs)

-- a body that could go on after the greatest number of bytes is cut
abbrev pub cut_state : State → Bool → State
cut_state More full = if full then Cut else More
cut_state Whole full = Whole
cut_state Cut full = Cut
cut_state Misframed full = Misframed

abbrev pub capped : Bool → Part → Part
capped full p = record { raw = p.raw; plain = p.plain; used = p.used; state = cut_state p.state full }

-- a reader: its stage, and the bytes of an unfinished element
pub record Reading : Type 0 where
  pub stage : Stage
  pub kept : List ℕ

-- what the bytes to come are read to
abbrev pub reads_on : Stage → List ℕ → List ℕ → Part
reads_on (stage.Ended state) kept rest = nothing state
reads_on (stage.Bytes left) kept rest = first_bytes left Whole rest
reads_on (stage.Rest room) kept rest = first_bytes room Cut rest
reads_on (stage.Chunks place room) kept rest = capped (nat_le room (length rest)) (reads place kept (take room rest))

unfoldable pub goes_on : Reading → List ℕ → Part
goes_on r rest = reads_on r.stage r.kept rest

-- the reader at the start of a body
abbrev pub first_stage : BodyRule → Stage
first_stage rule.Absent = stage.Ended Whole
first_stage (rule.Length n) = if n == 0 then stage.Ended Whole else stage.Bytes n
first_stage rule.Chunked = stage.Chunks Size body_limit
first_stage rule.ToClose = stage.Rest body_limit

abbrev pub first : BodyRule → Reading
first rule = record { stage = first_stage rule; kept = [] }

-- how the body stands
abbrev pub stage_state : Stage → State
stage_state (stage.Ended state) = state
stage_state (stage.Bytes left) = More
stage_state (stage.Rest room) = More
stage_state (stage.Chunks place room) = More

-- the stage of a chunked body that stands before that place and may take so many more bytes
abbrev pub stage_before : ChunkPlace → ℕ → Stage
stage_before place room =
    if is_last place then stage.Ended (place_state place) else (if room == 0 then stage.Ended Cut else stage.Chunks place room)

-- how the body stands where no more bytes come
abbrev pub end_state : Stage → State
end_state (stage.Ended state) = state
end_state (stage.Bytes left) = Cut
end_state (stage.Rest room) = Whole
end_state (stage.Chunks place room) = Cut

-- the stage takes no more bytes
abbrev pub is_ended : Stage → Bool
is_ended (stage.Ended state) = true
is_ended (stage.Bytes left) = false
is_ended (stage.Rest room) = false
is_ended (stage.Chunks place room) = false

-- the body goes to the close
abbrev pub is_to_close : Stage → Bool
is_to_close (stage.Ended state) = false
is_to_close (stage.Bytes left) = false
is_to_close (stage.Rest room) = true
is_to_close (stage.Chunks place room) = false

-- an ended stage stays so, and before that a body to the close stays one
pub record KeepsKind (old new : Stage) : Type 0 where
  pub ended : is_ended new ≡ false → is_ended old ≡ false
  pub to_close : is_ended new ≡ false → is_to_close new ≡ is_to_close old

-- so many bytes of a piece were used, and all of them where the body may go on
pub record Uses (piece : List ℕ) (used : ℕ) (state : State) : Type 0 where
  pub within : used ≤ length piece
  pub all : state ≡ More → used ≡ length piece

-- a reader took so many bytes of a piece and put these out: what all bytes are read to is the same before and behind
pub record ReaderSteps (old : Reading) (piece raw plain : List ℕ) (used : ℕ) (new : Reading) : Type 0 where
  pub same : (rest : List ℕ) → goes_on old (piece ++ rest) ≡ before raw plain used (goes_on new rest)
  pub kind : KeepsKind old.stage new.stage

-- a reader of a body by that rule was fed these bytes in any pieces, and put these out
abbrev pub ReaderAfter : BodyRule → List ℕ → List ℕ → List ℕ → ℕ → Reading → Type 0
ReaderAfter rule fed raw plain used r = ReaderSteps (first rule) fed raw plain used r

-- the bytes that were added at the end
abbrev pub added : List ℕ → List ℕ → List ℕ
added old new = drop (length old) new

-- a line stands at this place
abbrev pub is_line : ChunkPlace → Bool
is_line Size = true
is_line (Data n) = false
is_line Gap = true
is_line (Trailers n) = true
is_line Done = false
is_line Wrong = false

-- what may be kept before a place
abbrev pub IsHeld : ChunkPlace → List ℕ → Type 0
IsHeld Size kept = IsOpen Size kept
IsHeld (Data n) kept = (0 < n) × (kept ≡ [])
IsHeld Gap kept = IsOpen Gap kept
IsHeld (Trailers n) kept = IsOpen (Trailers n) kept
IsHeld Done kept = kept ≡ []
IsHeld Wrong kept = kept ≡ []

-- room for so many more
abbrev pub Room : {Z : Type 0} → Vec ℕ Z → ℕ → Type 0
Room v n = vec_len v + n ≤ vec_capacity v

-- what is true of a reader at each stage
abbrev pub IsSettledAt : Stage → List ℕ → Type 0
IsSettledAt (stage.Ended state) kept = (kept ≡ []) × (state ≡ More → ⊥)
IsSettledAt (stage.Bytes left) kept = (kept ≡ []) × (0 < left)
IsSettledAt (stage.Rest room) kept = (kept ≡ []) × (0 < room)
IsSettledAt (stage.Chunks place room) kept = IsHeld place kept × (is_last place ≡ false) × (0 < room)

pub record IsSettled (r : Reading) : Type 0 where
  pub settled : IsSettledAt r.stage r.kept
  pub short : length r.kept ≤ 8192
