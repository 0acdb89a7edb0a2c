-- By which rule a body is read (RFC 9112, section 6.3).
use Rattle.std.specs.Prelude.{ℕ, Bool, true, false, ◌&&◌, ◌||◌, ◌==◌, nat_le, if◌then◌else◌, List, [], ◌∷◌, length, codes, flat_map, Option, Some, None, Result, Ok, Err}
use Rattle.std.specs.List.{slice_split, list_all}
use Rattle.std.specs.Str.{bytes_eq, str_eq_ignore_ascii_case}
use Rattle.px_base.specs.Blanks.{trimmed}
use Rattle.px_base.specs.Numbers.{decimal}
use Rattle.px_fields.specs.Names.{has_name}
use Rattle.px_fields.specs.declared.fields.Field.{Field}
use Rattle.px_head.specs.declared.responses.ResponseHead.{ResponseHead}
use Rattle.px_framing.specs.Body.{body_limit}
use Rattle.px_framing.specs.declared.rules.BodyRule.{BodyRule}
use Rattle.px_framing.specs.declared.rules.BodyRule.TheVariants.{Absent, Length, Chunked, ToClose}
use Rattle.px_framing.specs.declared.rules.BodyFault.{BodyFault}
use Rattle.px_framing.specs.declared.rules.BodyFault.TheVariants.{TwoLengths, BadLength, LengthAndChunks, UnknownCoding}

abbrev pub body_fault_number : BodyFault → ℕ
body_fault_number TwoLengths = 37
body_fault_number BadLength = 38
body_fault_number LengthAndChunks = 39
body_fault_number UnknownCoding = 40

abbrev pub body_fault_name : BodyFault → List ℕ
body_fault_name TwoLengths = codes "TwoLengths"
body_fault_name BadLength = codes "BadLength"
body_fault_name LengthAndChunks = codes "LengthAndChunks"
body_fault_name UnknownCoding = codes "UnknownCoding"

-- the values of the fields of that name
abbrev pub field_values : List ℕ → List Field → List (List ℕ)
field_values name [] = []
field_values name (f ∷ fs) = if has_name name f then f.value ∷ field_values name fs else field_values name fs

abbrev pub codings_name : List ℕ
codings_name = codes "Transfer-Encoding"

abbrev pub lengths_name : List ℕ
lengths_name = codes "Content-Length"

-- a field of that name stands
abbrev pub has_values : List (List ℕ) → Bool
has_values [] = false
has_values (v ∷ vs) = true

-- the items without white space around them, and without the empty ones
abbrev pub some_items : List (List ℕ) → List (List ℕ)
some_items [] = []
some_items (i ∷ items) = if length (trimmed i) == 0 then some_items items else trimmed i ∷ some_items items

-- the items of a list between commas; 44 is the comma
abbrev pub items_of : List ℕ → List (List ℕ)
items_of value = some_items (slice_split (λ b. b == 44) value)

-- the codings of all Transfer-Encoding fields, in order
abbrev pub codings_of : List Field → List (List ℕ)
codings_of fields = flat_map items_of (field_values codings_name fields)

abbrev pub is_chunked : List ℕ → Bool
is_chunked coding = str_eq_ignore_ascii_case coding (codes "chunked")

-- the codings are `chunked` alone
abbrev pub are_chunked : List (List ℕ) → Bool
are_chunked [] = false
are_chunked (c ∷ []) = is_chunked c
are_chunked (c ∷ d ∷ cs) = false

-- the last coding is `chunked`
abbrev pub end_chunked : List (List ℕ) → Bool
end_chunked [] = false
end_chunked (c ∷ []) = is_chunked c
end_chunked (c ∷ d ∷ cs) = end_chunked (d ∷ cs)

-- one more length before the others
abbrev pub with_length : Option ℕ → Option (List ℕ) → Option (List ℕ)
with_length None rest = None
with_length (Some n) None = None
with_length (Some n) (Some ns) = Some (n ∷ ns)

-- the numbers below 2^63 that the values are, where each is one
abbrev pub lengths : List (List ℕ) → Option (List ℕ)
lengths [] = Some []
lengths (v ∷ vs) = with_length (decimal body_limit v) (lengths vs)

-- the rule that lengths give, and that other rule where there are none
abbrev pub length_rule : BodyRule → Option (List ℕ) → Result BodyRule BodyFault
length_rule other None = Err BadLength
length_rule other (Some []) = Ok other
length_rule other (Some (n ∷ ns)) = if list_all (λ m. m == n) ns then Ok (Length n) else Err TwoLengths

-- the rule of a request or a response that has a body: by its codings where they stand, by its lengths where they don't
abbrev pub rule_of : Bool → Bool → Result BodyRule BodyFault → Result BodyRule BodyFault → Result BodyRule BodyFault
rule_of true true by_codings by_lengths = Err LengthAndChunks
rule_of true false by_codings by_lengths = by_codings
rule_of false length_stands by_codings by_lengths = by_lengths

unfoldable pub request_rule : List Field → Result BodyRule BodyFault
request_rule fields =
    rule_of (has_values (field_values codings_name fields)) (has_values (field_values lengths_name fields))
    (if are_chunked (codings_of fields) then Ok Chunked else Err UnknownCoding)
    (length_rule Absent (lengths (field_values lengths_name fields)))

-- a response without a body: to HEAD, or of status 1xx, 204 or 304
abbrev pub is_bodiless : ℕ → List ℕ → Bool
is_bodiless status method =
    bytes_eq method (codes "HEAD") || ((nat_le 100 status && nat_le status 199) || (status == 204 || status == 304))

unfoldable pub response_rule : ResponseHead → List ℕ → Result BodyRule BodyFault
response_rule head method =
    if is_bodiless head.status method then Ok Absent
    else rule_of (has_values (field_values codings_name head.fields)) (has_values (field_values lengths_name head.fields))
    (Ok (if end_chunked (codings_of head.fields) then Chunked else ToClose))
    (length_rule ToClose (lengths (field_values lengths_name head.fields)))
