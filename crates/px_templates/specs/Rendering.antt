-- The text of a page.
use Rattle.std.specs.Prelude.{ℕ, Bool, true, ◌==◌, List, [], ◌∷◌, flat_map, Option, Some, None, codes, if◌then◌else◌}
use Rattle.std.specs.Str.{byte}
use Rattle.px_templates.specs.declared.symbols.Symbols.{Symbols}
use Rattle.px_templates.specs.declared.conditions.Condition.{Condition}
use Rattle.px_templates.specs.Symbols.{symbol_value, condition_holds}
use Rattle.px_templates.specs.Pieces.{PiecePart, Piece}

-- a byte of a value as it stands in HTML
abbrev pub escaped_byte : ℕ → List ℕ
escaped_byte b =
    if b == byte "&" then codes "&amp;" else if b == byte "<" then codes "&lt;"
    else if b == byte ">" then codes "&gt;" else if b == 34 then codes "&quot;" else b ∷ []

unfoldable pub escaped : List ℕ → List ℕ
escaped value = flat_map escaped_byte value

abbrev pub part_text : Symbols → PiecePart → List ℕ
part_text symbols (PiecePart.byte b) = b ∷ []
part_text symbols (PiecePart.value s) = escaped (symbol_value symbols s)

-- what isn't in a block stands, and a block stands where its value isn't empty
abbrev pub run_stands : Symbols → Option Condition → Bool
run_stands symbols None = true
run_stands symbols (Some c) = condition_holds symbols c

-- what a piece gives: its part, or nothing in a block that falls
abbrev pub piece_text : Symbols → Piece → List ℕ
piece_text symbols p = if run_stands symbols p.condition then part_text symbols p.part else []

unfoldable pub rendered : Symbols → List Piece → List ℕ
rendered symbols pieces = flat_map (piece_text symbols) pieces
