-- The body of a message over whole bytes (RFC 9112, sections 6 and 7): which of them are the body's, which are whole
-- elements, their data, and how the body stands.
use Rattle.std.specs.Prelude.{◌≡◌, ℕ, ◌-◌, ◌<◌, ◌≤◌, List, [], ◌++◌, length, take, min, flat_map, nat_le, if◌then◌else◌}
use Rattle.px_framing.specs.declared.places.ChunkPlace.{ChunkPlace}
use Rattle.px_framing.specs.declared.places.ChunkPlace.TheVariants.{Size, Done}
use Rattle.px_framing.specs.declared.places.State.{State}
use Rattle.px_framing.specs.declared.places.State.TheVariants.{More, Whole, Cut, Misframed}
use Rattle.px_framing.specs.declared.rules.BodyRule.{BodyRule}
use Rattle.px_framing.specs.declared.rules.BodyRule.TheVariants.{Absent, Length, Chunked, ToClose}
use Rattle.px_framing.specs.Elements.{Element, print, data_of, ElementsLead}

-- the most bytes of a body whose length isn't stated
abbrev pub body_limit : ℕ
body_limit = 9223372036854775807

-- what bytes are read to: those of whole elements, their data, how many bytes were used, and how the body stands
pub record Part : Type 0 where
  pub raw : List ℕ
  pub plain : List ℕ
  pub used : ℕ
  pub state : State

-- these bytes are whole elements of a chunked body, in their order, with this data, and place is what comes next
pub record AreElements (bytes data_bytes : List ℕ) (place : ChunkPlace) : Type 0 where
  pub elements : List Element
  pub leads : ElementsLead Size elements place
  pub bytes_are : bytes ≡ flat_map print elements
  pub data_is : data_bytes ≡ flat_map data_of elements

-- these bytes are a chunked body
abbrev pub IsBody : List ℕ → Type 0
IsBody bytes = (data_bytes : List ℕ) × AreElements bytes data_bytes Done

-- these bytes and some that may follow are a chunked body
abbrev pub CanGoOn : List ℕ → Type 0
CanGoOn bytes = (more : List ℕ) × IsBody (bytes ++ more)

-- no front of these bytes is a chunked body
abbrev pub NoBody : List ℕ → Type 0
NoBody bytes = (n : ℕ) → IsBody (take n bytes) → ⊥

-- what each state says of a chunked body's bytes. Misframed: the last byte used is the first one after which no
-- continuation is a body. Whole comes first, so none of these bytes were a body.
abbrev pub StateSays : State → List ℕ → ℕ → Type 0
StateSays Whole bytes used = IsBody (take used bytes)
StateSays Misframed bytes used = (0 < used) × CanGoOn (take (used - 1) bytes) × (CanGoOn (take used bytes) → ⊥) × NoBody (take used bytes)
StateSays More bytes used = (used ≡ length bytes) × CanGoOn bytes × NoBody bytes
StateSays Cut bytes used = CanGoOn (take used bytes) × NoBody (take used bytes)

-- at the greatest number of bytes a body that could go on is cut, and only there
abbrev pub KeepsLimit : State → ℕ → Type 0
KeepsLimit More used = used < body_limit
KeepsLimit Whole used = used ≤ body_limit
KeepsLimit Misframed used = used ≤ body_limit
KeepsLimit Cut used = used ≡ body_limit

-- of these bytes the first so many are the chunked body's, raw is the longest front of whole elements, and plain its data
pub record IsChunked (bytes : List ℕ) (p : Part) : Type 0 where
  pub within : p.used ≤ length bytes
  pub held : List ℕ
  pub next : ChunkPlace
  pub front : take p.used bytes ≡ p.raw ++ held
  pub elements : AreElements p.raw p.plain next
  pub longest : (r d rest : List ℕ) (place : ChunkPlace) → AreElements r d place → take p.used bytes ≡ r ++ rest → length r ≤ length p.raw
  pub says : StateSays p.state bytes p.used
  pub limit : KeepsLimit p.state p.used

-- nothing is used
abbrev pub nothing : State → Part
nothing state = record { raw = []; plain = []; used = 0; state = state }

-- the first n bytes are the body's, and state is how it stands when they are all there
abbrev pub first_bytes : ℕ → State → List ℕ → Part
first_bytes n state bytes = record {
  raw = take n bytes;
  plain = take n bytes;
  used = min n (length bytes);
  state = if nat_le n (length bytes) then state else More;
}

-- what bytes are read to by a rule
abbrev pub Body : BodyRule → List ℕ → Part → Type 0
Body Absent bytes p = p ≡ nothing Whole
Body (Length n) bytes p = p ≡ first_bytes n Whole bytes
Body Chunked bytes p = IsChunked bytes p
Body ToClose bytes p = p ≡ first_bytes body_limit Cut bytes

-- how a body stands where no more bytes come: one to the close is whole, and any other that isn't is cut
abbrev pub at_end : BodyRule → State → State
at_end ToClose More = Whole
at_end Absent More = Cut
at_end (Length n) More = Cut
at_end Chunked More = Cut
at_end rule Whole = Whole
at_end rule Cut = Cut
at_end rule Misframed = Misframed
