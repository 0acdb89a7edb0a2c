-- Braces that balance, and the words of a line (the manual's chapter on actions files).
use Rattle.std.specs.Prelude.{ℕ, ◌+◌, ◌-◌, ◌==◌, ◌&&◌, ◌||◌, Bool, false, not, if◌then◌else◌, List, [], ◌∷◌, length, filter}
use Rattle.std.specs.List.{onto_first}
use Rattle.std.specs.Str.{byte}
use Rattle.px_base.specs.Blanks.{is_blank}

-- a byte as it counts: a backslash and the byte behind it count as no brace
abbrev pub counted_byte : Bool → ℕ → ℕ
counted_byte behind b = if behind || b == byte "\\" then 0 else b

-- whether what comes next stands behind a backslash
abbrev pub is_behind : Bool → ℕ → Bool
is_behind behind b = not behind && b == byte "\\"

-- the bytes of a text as they count
abbrev pub counted_text : Bool → List ℕ → List ℕ
counted_text behind [] = []
counted_text behind (b ∷ rest) = counted_byte behind b ∷ counted_text (is_behind behind b) rest

-- how many braces are open after a byte, where so many are open before it
abbrev pub open_after : ℕ → ℕ → ℕ
open_after opened b = if b == byte "{" then opened + 1 else (if b == byte "}" then opened - 1 else opened)

-- no brace closes that isn't open, and at the end none is open
abbrev pub closes_all : ℕ → List ℕ → Bool
closes_all opened [] = opened == 0
closes_all opened (b ∷ rest) = not (b == byte "}" && opened == 0) && closes_all (open_after opened b) rest

-- the first of so many open braces is closed by the last byte
abbrev pub closes_at_end : ℕ → List ℕ → Bool
closes_at_end opened [] = false
closes_at_end opened (b ∷ rest) = if open_after opened b == 0 then length rest == 0 else closes_at_end (open_after opened b) rest

-- the braces of a text balance
unfoldable pub balances : List ℕ → Bool
balances text = closes_all 0 (counted_text false text)

-- what stands behind a brace ends with the brace that balances it
unfoldable pub is_closed : List ℕ → Bool
is_closed text = closes_at_end 1 (counted_text false text)

-- for each byte of a text, how many braces are open before it
abbrev pub depths : ℕ → List ℕ → List ℕ
depths opened [] = []
depths opened (b ∷ rest) = opened ∷ depths (open_after opened b) rest

-- the pieces of a text, cut at white space where no brace is open
abbrev pub pieces : List ℕ → List ℕ → List (List ℕ)
pieces [] opened = [] ∷ []
pieces (b ∷ rest) [] = [] ∷ []
pieces (b ∷ rest) (o ∷ opened) = if is_blank b && o == 0 then [] ∷ pieces rest opened else onto_first b (pieces rest opened)

-- the words of a text: its pieces that aren't empty
unfoldable pub words : List ℕ → List (List ℕ)
words text = filter (λ piece. not (length piece == 0)) (pieces text (depths 0 (counted_text false text)))

-- how many bytes the first piece has
abbrev pub piece_length : List ℕ → List ℕ → ℕ
piece_length [] opened = 0
piece_length (b ∷ rest) [] = 0
piece_length (b ∷ rest) (o ∷ opened) = if is_blank b && o == 0 then 0 else piece_length rest opened + 1
