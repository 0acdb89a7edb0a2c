-- What an answer's head settles (RFC 9112, section 6.3): by which form its body is returned, and what frames it.
use Rattle.std.specs.Prelude.{ℕ, Bool, true, false, not, ◌&&◌, ◌||◌, ◌==◌, List, [], ◌∷◌, ◌++◌, flat_map, codes, Option, Some, None, is_some, if◌then◌else◌}
use Rattle.std.specs.List.{list_all, list_any}
use Rattle.std.specs.Str.{str_eq_ignore_ascii_case}
use Rattle.px_base.specs.Numbers.{decimal}
use Rattle.px_fields.specs.Names.{has_name}
use Rattle.px_fields.specs.declared.fields.Field.{Field}
use Rattle.px_head.specs.declared.responses.ResponseHead.{ResponseHead}
use Rattle.px_framing.specs.Rules.{codings_of, are_chunked}
use Rattle.px_framing.specs.declared.rules.BodyRule.{BodyRule}
use Rattle.px_framing.specs.declared.rules.BodyRule.TheVariants as rule
use Rattle.px_filter_files.specs.FilterFiles.{FiltersOfFiles, found}
use Rattle.px_filter_files.specs.declared.kinds.FilterKind.TheVariants as kind
use Rattle.px_answers.specs.declared.forms.Framed.{Framed}
use Rattle.px_answers.specs.declared.forms.Form.{Form}
use Rattle.px_answers.specs.declared.forms.Form.TheVariants as form
use Rattle.px_answers.specs.declared.framings.BodyPlan.{BodyPlan}
use Rattle.px_answers.specs.declared.framings.Terms.{Terms}
use Rattle.px_answers.specs.declared.framings.HeaderLines.{HeaderLines}
use Rattle.px_answers.specs.Forms.{length_field}

unfoldable pub is_length : Field → Bool
is_length f = has_name (codes "Content-Length") f

-- the number that the one Content-Length states: digits of a value below 2^63
abbrev pub stated_length : List Field → Option ℕ
stated_length [] = None
stated_length (f ∷ fs) =
    if is_length f then (if list_any is_length fs then None else decimal 9223372036854775807 f.value) else stated_length fs

abbrev pub length_fields : Option ℕ → List Field
length_fields None = []
length_fields (Some n) = length_field n ∷ []

-- codings as received, with a comma and a space between them
abbrev pub joined_codings : List (List ℕ) → List ℕ
joined_codings [] = []
joined_codings (c ∷ cs) = c ++ flat_map (λ d. codes ", " ++ d) cs

-- the field that names codings; none where there are none
abbrev pub coding_fields : List (List ℕ) → List Field
coding_fields [] = []
coding_fields (c ∷ cs) = record { name = codes "Transfer-Encoding"; value = joined_codings (c ∷ cs) } ∷ []

-- what frames a body that is returned as it came: the stated length where there is none, its length, its codings, or else the close
abbrev pub raw_framing : BodyRule → List Field → List (List ℕ) → List Field
raw_framing rule.Absent fields codings = length_fields (stated_length fields)
raw_framing (rule.Length n) fields codings = length_field n ∷ []
raw_framing rule.Chunked fields codings = coding_fields codings
raw_framing rule.ToClose fields codings = coding_fields codings

-- the data of chunks alone are framed by the close
abbrev pub framing_of : Form → BodyRule → List Field → List Field
framing_of form.Raw r fields = raw_framing r fields (codings_of fields)
framing_of form.Plain r fields = []

-- a client of HTTP/1.0 gets the data alone of a body whose one coding is `chunked`
abbrev pub form_by : Bool → BodyRule → List Field → Form
form_by old rule.Absent fields = form.Raw
form_by old (rule.Length n) fields = form.Raw
form_by old rule.Chunked fields = if old && are_chunked (codings_of fields) then form.Plain else form.Raw
form_by old rule.ToClose fields = form.Raw

abbrev pub answer_has_body : BodyRule → Bool
answer_has_body rule.Absent = false
answer_has_body (rule.Length n) = true
answer_has_body rule.Chunked = true
answer_has_body rule.ToClose = true

-- no coding is applied to the content: each Content-Encoding is `identity`
abbrev pub is_identity : Field → Bool
is_identity f = not (has_name (codes "Content-Encoding") f) || str_eq_ignore_ascii_case f.value (codes "identity")

-- the transfer codings are none, or `chunked` alone
abbrev pub is_plainly_coded : List (List ℕ) → Bool
is_plainly_coded [] = true
is_plainly_coded (c ∷ cs) = are_chunked (c ∷ cs)

-- a content filter has that name
abbrev pub is_filter : FiltersOfFiles → List ℕ → Bool
is_filter files name = is_some (found files (record { kind = kind.Content; name = name }))

-- the head allows filters: the answer has a body, isn't a part (206), is a text, no coding but `chunked` is applied to it, and a
-- content filter is named
unfoldable pub is_filterable : FiltersOfFiles → ResponseHead → BodyRule → Terms → Bool
is_filterable files head r terms =
    answer_has_body r
    && not (head.status == 206)
    && terms.text
    && list_all is_identity head.fields
    && is_plainly_coded (codings_of head.fields)
    && list_any (is_filter files) terms.filters

abbrev pub filters_if : Bool → List (List ℕ) → Option (List (List ℕ))
filters_if allowed names = if allowed then Some names else None

-- the request is of HTTP/1.0
abbrev pub is_old : Terms → Bool
is_old terms = terms.minor == 0

-- how the body is returned, by the head as received
unfoldable pub body_plan : FiltersOfFiles → ResponseHead → BodyRule → Terms → BodyPlan
body_plan files head r terms = record {
  rule = r;
  form = form_by (is_old terms) r head.fields;
  framing = framing_of (form_by (is_old terms) r head.fields) r head.fields;
  filters = filters_if (is_filterable files head r terms) terms.filters;
  limit = terms.limit;
  keep = terms.keep && not (is_old terms);
}

-- a plan behind the lines of a head
abbrev pub framed_so : BodyPlan → HeaderLines → Framed
framed_so plan lines = record {
  first_line = lines.first_line;
  fields = lines.fields;
  rule = plan.rule;
  form = plan.form;
  framing = plan.framing;
  filters = plan.filters;
  limit = plan.limit;
  keep = plan.keep;
}

-- what an answer's head settles
abbrev pub framed_of : FiltersOfFiles → ResponseHead → BodyRule → Terms → HeaderLines → Framed
framed_of files head r terms lines = framed_so (body_plan files head r terms) lines
