-- The fields that a proxy doesn't pass on (RFC 9110, section 7.6.1).
use Rattle.std.specs.Prelude.{◌≡◌, ℕ, Bool, ◌==◌, ◌||◌, not, List, filter, map, codes}
use Rattle.std.specs.List.{flat_map, slice_split}
use Rattle.std.specs.Str.{str_eq_ignore_ascii_case}
use Rattle.px_base.specs.Blanks.{trimmed}
use Rattle.px_fields.specs.declared.fields.Field.{Field}
use Rattle.px_fields.specs.Names.{has_name, is_among_names, is_connection_word, is_held_back_of_request, is_held_back_of_response}
use Rattle.px_headers.specs.declared.held_back.MessageKind.{MessageKind}
use Rattle.px_headers.specs.declared.held_back.MessageKind.TheVariants.{Request, Response}
use Rattle.px_headers.specs.declared.held_back.HeldBack.{HeldBack}
use Rattle.px_headers.specs.Rows.{without_those}

-- the names that are held back of every such message
abbrev pub is_fixed : MessageKind → List ℕ → Bool
is_fixed Request name = is_held_back_of_request name
is_fixed Response name = is_held_back_of_response name

-- a name is held back of a message with these fields: it is a fixed one, or one of its Connection fields names it
unfoldable pub is_held_back : MessageKind → List Field → List ℕ → Bool
is_held_back message fields name = is_fixed message name || is_connection_word name fields

-- the fields that may be passed on
unfoldable pub passed_on : MessageKind → List Field → List Field
passed_on message fields = without_those (λ f. is_held_back message fields f.name) fields

-- the word may name a field that isn't held back without it: Keep-Alive is held back of every message
abbrev pub names_more : List ℕ → Bool
names_more word = not (str_eq_ignore_ascii_case word (codes "Keep-Alive"))

-- those words of a list between commas, without the white space around them (44 is the comma)
abbrev pub words_in : List ℕ → List (List ℕ)
words_in value = filter names_more (map (λ part. trimmed part) (slice_split (λ b. b == 44) value))

-- those words of the Connection fields
abbrev pub connection_words : List Field → List (List ℕ)
connection_words fields = flat_map (λ (f : Field). words_in f.value) (filter (has_name (codes "Connection")) fields)

-- a name is a fixed one, or one of those words
abbrev pub is_held : HeldBack → List ℕ → Bool
is_held held name = is_fixed held.message name || is_among_names held.words name

-- the fields of other names
abbrev pub without_held : HeldBack → List Field → List Field
without_held held fields = without_those (λ f. is_held held f.name) fields

-- what is kept of a message with these fields
pub record IsHeldBackOf (message : MessageKind) (fields : List Field) (held : HeldBack) : Type 0 where
  pub message_is : held.message ≡ message
  pub words_are : held.words ≡ connection_words fields
