-- Field lines as they are read and printed (RFC 9110, section 5; RFC 9112, section 5).
use Rattle.std.specs.Prelude.{◌≡◌, ℕ, ◌+◌, ◌==◌, ◌&&◌, Bool, not, if◌then◌else◌, List, ◌++◌, take, drop, codes, Option, Some, None, option_and_then}
use Rattle.std.specs.List.{position, list_all}
use Rattle.httparse.specs.Grammar.{is_token}
use Rattle.px_base.specs.Blanks.{trimmed}
use Rattle.px_fields.specs.declared.fields.Field.{Field}

-- a byte of a value: not NUL, LF or CR
abbrev pub is_value_byte : ℕ → Bool
is_value_byte b = not (b == 0) && not (b == 10) && not (b == 13)

-- the name, and the value without the white space around it, where they are a token and a value
abbrev pub field_from : List ℕ → List ℕ → Option Field
field_from name value =
    if is_token name && list_all is_value_byte value then Some (record { name = name; value = trimmed value }) else None

-- a token, a colon (58) and a value
unfoldable pub read_field : List ℕ → Option Field
read_field text = option_and_then (λ at. field_from (take at text) (drop (at + 1) text)) (position (λ b. b == 58) text)

-- the field's line: its name, a colon, a space and its value
abbrev pub field_line : Field → List ℕ
field_line f = f.name ++ codes ": " ++ f.value
