-- Fields by their names, which are compared without case (RFC 9110, section 5.1), the words of Connection fields, and the
-- fields that a proxy doesn't pass on.
use Rattle.std.specs.Prelude.{ℕ, Bool, ◌==◌, ◌&&◌, ◌||◌, List, [], ◌∷◌, codes, slice_index, Option}
use Rattle.std.specs.Char.{to_ascii_lowercase}
use Rattle.std.specs.List.{find, list_any, slice_split}
use Rattle.std.specs.Str.{str_eq_ignore_ascii_case}
use Rattle.px_base.specs.Blanks.{trimmed}
use Rattle.px_fields.specs.declared.fields.Field.{Field}

-- the field has that name
abbrev pub has_name : List ℕ → Field → Bool
has_name name f = str_eq_ignore_ascii_case f.name name

-- a field of that name stands
abbrev pub has_field : List ℕ → List Field → Bool
has_field name fields = list_any (has_name name) fields

-- the first field of that name
abbrev pub first_field : List ℕ → List Field → Option Field
first_field name fields = find (has_name name) fields

-- the word is one of those between the commas of a value (44 is the comma)
unfoldable pub lists_word : List ℕ → List ℕ → Bool
lists_word word value = list_any (λ part. str_eq_ignore_ascii_case (trimmed part) word) (slice_split (λ b. b == 44) value)

-- the word is one of those of the Connection fields (RFC 9110, section 7.6.1)
abbrev pub is_connection_word : List ℕ → List Field → Bool
is_connection_word word fields = list_any (λ (f : Field). has_name (codes "Connection") f && lists_word word f.value) fields

-- the name is one of these
abbrev pub is_among_names : List (List ℕ) → List ℕ → Bool
is_among_names names name = list_any (λ one. str_eq_ignore_ascii_case one name) names

-- the names of fields that speak of one connection alone (RFC 9110, section 7.6.1), and Content-Length, which says where
-- a body ends there
abbrev pub connection_names : List (List ℕ)
connection_names =
    codes "Connection" ∷ codes "Proxy-Connection" ∷ codes "Keep-Alive" ∷ codes "TE" ∷ codes "Trailer"
    ∷ codes "Transfer-Encoding" ∷ codes "Upgrade" ∷ codes "Content-Length" ∷ []

-- the further names that a proxy answers for in a request
abbrev pub request_names : List (List ℕ)
request_names = codes "Host" ∷ codes "Expect" ∷ codes "Proxy-Authorization" ∷ []

-- a field of that name isn't passed on of a response
unfoldable pub is_held_back_of_response : List ℕ → Bool
is_held_back_of_response name = is_among_names connection_names name

-- a field of that name isn't passed on of a request
unfoldable pub is_held_back_of_request : List ℕ → Bool
is_held_back_of_request name = is_among_names connection_names name || is_among_names request_names name

-- the first byte is that small letter, without case
abbrev pub begins_with_letter : List ℕ → ℕ → Bool
begins_with_letter name letter = to_ascii_lowercase (slice_index name 0) == letter
