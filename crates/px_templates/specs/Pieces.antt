-- The pieces of a template's text: bytes and symbols, and those of blocks, which stand or fall by a value.
use Rattle.std.specs.Prelude.{ℕ, zero, suc, ◌+◌, ◌-◌, min, ◌==◌, nat_eq, List, [], ◌∷◌, ◌++◌, length, take, drop, map, count_by, Option, Some, None, option_map, if◌then◌else◌}
use Rattle.std.specs.List.{starts_with}
use Rattle.std.specs.Option.{option_map_or}
use Rattle.px_templates.specs.declared.symbols.Symbol.{Symbol}
use Rattle.px_templates.specs.declared.conditions.Condition.{Condition}
use Rattle.px_templates.specs.declared.fronts.TemplateFront.{TemplateFront}
use Rattle.px_templates.specs.declared.fronts.TemplateFront.TheVariants as front
use Rattle.px_templates.specs.Symbols.{mark_of, symbol_at, start_of, end_mark, condition_at}

-- a byte as it is, or the value of a symbol
pub data PiecePart : Type 0 where
  byte : ℕ → PiecePart
  value : Symbol → PiecePart

-- a part, and the condition of the block that it stands in, if it stands in one
pub record Piece : Type 0 where
  pub condition : Option Condition
  pub part : PiecePart

abbrev pub part_in : Option Condition → PiecePart → Piece
part_in c p = record { condition = c; part = p }

-- bytes as they are
abbrev pub plain : Option Condition → List ℕ → List Piece
plain c bytes = map (λ b. part_in c (byte b)) bytes

-- The pieces of a text behind its first bytes, where no block begins. An `@` that begins no symbol is a byte.
unfoldable pub parts_behind : Option Condition → ℕ → List ℕ → List Piece
parts_behind c n [] = []
parts_behind c (suc n) (b ∷ bs) = parts_behind c n bs
parts_behind c zero (b ∷ bs) =
    option_map_or (λ s. part_in c (value s) ∷ parts_behind c (length (mark_of s) - 1) bs) (symbol_at (b ∷ bs))
    (part_in c (byte b) ∷ parts_behind c 0 bs)

-- the first place of a text at which the mark that ends a block stands
unfoldable pub end_place : Condition → List ℕ → Option ℕ
end_place c [] = None
end_place c (b ∷ bs) = if starts_with nat_eq (b ∷ bs) (end_mark c) then Some 0 else option_map (λ n. n + 1) (end_place c bs)

-- a block whose first mark begins the text, or that mark where no other ends it
abbrev pub block_at : Condition → List ℕ → TemplateFront
block_at c text = option_map_or (λ n. front.Block c n) (end_place c (drop (length (start_of c)) text)) front.Open

-- what stands at the front of a text that no block holds: a symbol, a block with so many bytes between its marks, a first mark
-- that isn't ended, or a byte
unfoldable pub front_at : List ℕ → TemplateFront
front_at text =
    option_map_or front.Value (symbol_at text) (option_map_or (λ c. block_at c text) (condition_at text) front.Byte)

-- how many bytes that takes
abbrev pub width : TemplateFront → ℕ
width front.Byte = 1
width (front.Value s) = length (mark_of s)
width (front.Block c n) = length (start_of c) + n + length (end_mark c)
width front.Open = 1

-- the pieces of what stands at the front of a text
abbrev pub front_pieces : TemplateFront → List ℕ → List Piece
front_pieces front.Byte text = plain None (take 1 text)
front_pieces (front.Value s) text = part_in None (value s) ∷ []
front_pieces (front.Block c n) text = parts_behind (Some c) 0 (take n (drop (length (start_of c)) text))
front_pieces front.Open text = plain None (take 1 text)

-- The pieces of a text behind its first bytes, from left to right.
unfoldable pub pieces_behind : ℕ → List ℕ → List Piece
pieces_behind n [] = []
pieces_behind (suc n) (b ∷ bs) = pieces_behind n bs
pieces_behind zero (b ∷ bs) = let f = front_at (b ∷ bs) in front_pieces f (b ∷ bs) ++ pieces_behind (width f - 1) bs

abbrev pub pieces_of : List ℕ → List Piece
pieces_of text = pieces_behind 0 text

-- a place where a first mark isn't ended, or a later such place
abbrev pub open_or : ℕ → TemplateFront → Option ℕ → Option ℕ
open_or at front.Open later = Some at
open_or at front.Byte later = later
open_or at (front.Value s) later = later
open_or at (front.Block c n) later = later

-- the first place at which a first mark isn't ended, where the text begins at `at`
unfoldable pub open_behind : ℕ → ℕ → List ℕ → Option ℕ
open_behind at n [] = None
open_behind at (suc n) (b ∷ bs) = open_behind (at + 1) n bs
open_behind at zero (b ∷ bs) = let f = front_at (b ∷ bs) in open_or at f (open_behind (at + 1) (width f - 1) bs)

-- the number of the line in which a place lies, from 1; a greater number than a u32 holds is given as the greatest
abbrev pub line_at : List ℕ → ℕ → ℕ
line_at text at = min (count_by (λ b. b == 10) (take at text) + 1) 4294967295

-- the line of the first mark outside of blocks that begins a block and that none ends
abbrev pub open_line : List ℕ → Option ℕ
open_line text = option_map (line_at text) (open_behind 0 0 text)
