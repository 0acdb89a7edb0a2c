-- The forms in which an answer's body is returned, and the head before it.
use Rattle.std.specs.Prelude.{ℕ, Bool, true, false, ◌&&◌, nat_le, List, [], ◌∷◌, ◌++◌, Option, Some, None, codes, if◌then◌else◌}
use Rattle.std.specs.Fmt.{decimal}
use Rattle.px_fields.specs.declared.fields.Field.{Field}
use Rattle.px_head.specs.Prints.{printed_head}
use Rattle.px_framing.specs.Body.{Part, at_end}
use Rattle.px_framing.specs.Reading.{goes_on, first}
use Rattle.px_framing.specs.declared.rules.BodyRule.{BodyRule}
use Rattle.px_framing.specs.declared.rules.BodyRule.TheVariants as rule
use Rattle.px_framing.specs.declared.places.State.{State}
use Rattle.px_framing.specs.declared.places.State.TheVariants as state
use Rattle.px_answers.specs.declared.forms.Framed.{Framed}
use Rattle.px_answers.specs.declared.forms.Form.{Form}
use Rattle.px_answers.specs.declared.forms.Form.TheVariants as form

-- what the bytes behind a head are read to
abbrev pub body_of : BodyRule → List ℕ → Part
body_of r rest = goes_on (first r) rest

-- the bytes of a body that are returned
abbrev pub formed : Form → List ℕ → List ℕ → List ℕ
formed form.Raw raw plain = raw
formed form.Plain raw plain = plain

-- a body that is returned so has an end of its own: not its close
abbrev pub ends_by : Form → BodyRule → Bool
ends_by form.Plain r = false
ends_by form.Raw rule.Absent = true
ends_by form.Raw (rule.Length n) = true
ends_by form.Raw rule.Chunked = true
ends_by form.Raw rule.ToClose = false

abbrev pub has_end : Framed → Bool
has_end f = ends_by f.form f.rule

abbrev pub connection_field : Bool → Field
connection_field keep = record { name = codes "Connection"; value = if keep then codes "keep-alive" else codes "close" }

abbrev pub length_field : ℕ → Field
length_field n = record { name = codes "Content-Length"; value = decimal n }

-- the head with that framing, behind whose body the connection is kept or closed
unfoldable pub head_with : Framed → List Field → Bool → List ℕ
head_with f framing keep = printed_head f.first_line (f.fields ++ framing ++ connection_field keep ∷ [])

-- the connection is kept behind an unfiltered body that is whole
abbrev pub keeps_behind_answer : Framed → Bool
keeps_behind_answer f = f.keep && has_end f

-- the head of an unfiltered body
abbrev pub passed_head : Framed → List ℕ
passed_head f = head_with f f.framing (keeps_behind_answer f)

-- the head allows filters
abbrev pub allows_filters : {A : Type 0} → Option A → Bool
allows_filters None = false
allows_filters (Some names) = true

abbrev pub is_more : State → Bool
is_more state.More = true
is_more state.Whole = false
is_more state.Cut = false
is_more state.Misframed = false

abbrev pub is_whole : State → Bool
is_whole state.More = false
is_whole state.Whole = true
is_whole state.Cut = false
is_whole state.Misframed = false

-- a body that stands so is whole or may become so
abbrev pub is_sound : State → Bool
is_sound state.More = true
is_sound state.Whole = true
is_sound state.Cut = false
is_sound state.Misframed = false

-- the head allows filters, and so many raw bytes are within the limit
abbrev pub is_open_to_filters : Framed → ℕ → Bool
is_open_to_filters f count = allows_filters f.filters && nat_le count f.limit

-- the body may still be filtered
abbrev pub may_filter : Framed → ℕ → State → Bool
may_filter f count s = is_open_to_filters f count && is_sound s

abbrev pub cut_unless_whole : State → State
cut_unless_whole state.More = state.Cut
cut_unless_whole state.Whole = state.Whole
cut_unless_whole state.Cut = state.Cut
cut_unless_whole state.Misframed = state.Misframed

-- how a body stands where no more bytes come; failed is whether their reading failed
abbrev pub state_at_end : BodyRule → Bool → State → State
state_at_end r true s = cut_unless_whole s
state_at_end r false s = at_end r s
