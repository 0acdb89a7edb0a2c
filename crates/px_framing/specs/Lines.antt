-- The lines of a chunked body (RFC 9112, section 7.1), by their texts without the CRLF, and which may stand where.
use Rattle.std.specs.Prelude.{◌≡◌, ℕ, zero, suc, ◌+◌, ◌^◌, ◌⊎◌, Bool, true, false, not, ◌&&◌, ◌||◌, ◌==◌, nat_lt, nat_le, List, [], ◌∷◌, ◌++◌, length, Option, Some, None, is_some, if◌then◌else◌, IsTrue}
use Rattle.std.specs.Char.{digit_value}
use Rattle.std.specs.Str.Parse.{digits_value}
use Rattle.std.specs.List.{list_all}
use Rattle.px_base.specs.Blanks.{is_blank}
use Rattle.px_framing.specs.declared.places.ChunkPlace.{ChunkPlace}
use Rattle.px_framing.specs.declared.places.ChunkPlace.TheVariants.{Size, Data, Gap, Trailers, Done, Wrong}
use Rattle.px_head.specs.Prints.{crlf}

abbrev pub is_hex : ℕ → Bool
is_hex b = nat_lt (digit_value b) 16

-- any byte but CR, LF and NUL
abbrev pub is_line_byte : ℕ → Bool
is_line_byte b = not (b == 13) && (not (b == 10) && not (b == 0))

-- the bytes at the front that pass the test, and what stands behind them
abbrev pub front_while : (ℕ → Bool) → List ℕ → List ℕ
front_while test [] = []
front_while test (b ∷ bs) = if test b then b ∷ front_while test bs else []

abbrev pub behind_while : (ℕ → Bool) → List ℕ → List ℕ
behind_while test [] = []
behind_while test (b ∷ bs) = if test b then behind_while test bs else b ∷ bs

-- nothing, or `;` and an extension
abbrev pub is_extension : List ℕ → Bool
is_extension [] = true
is_extension (b ∷ bs) = b == 59 && list_all is_line_byte bs

-- the number, where a size line's text stands behind its digits so, and the number is below 2^63
abbrev pub size_from : ℕ → List ℕ → Option ℕ
size_from n rest = if nat_lt n (2 ^ 63) && is_extension (behind_while is_blank rest) then Some n else None

-- the size that a size line's text gives: one or more hexadecimal digits of a value below 2^63, white space, and an
-- extension or none
unfoldable pub size_of : List ℕ → Option ℕ
size_of [] = None
size_of (b ∷ bs) =
    if is_hex b then size_from (digits_value 16 (front_while is_hex (b ∷ bs))) (behind_while is_hex (b ∷ bs)) else None

-- the text of a line that may stand here. A size line has at most 256 bytes with its CRLF, a trailer line 8,192, and all
-- trailer lines together 65,536. The empty text among the trailers is the last line, and counts nothing.
unfoldable pub may_stand : ChunkPlace → List ℕ → Bool
may_stand Size text = is_some (size_of text) && nat_le (length text) 254
may_stand (Data n) text = false
may_stand Gap text = nat_le (length text) 0
may_stand (Trailers n) text =
    list_all is_line_byte text
    && (nat_le (length text) 0 || (nat_le (length text) 8190 && nat_le (n + length text) 65534))
may_stand Done text = false
may_stand Wrong text = false

-- what comes next, where so many bytes of data are still to come
abbrev pub data_place : ℕ → ChunkPlace
data_place zero = Gap
data_place (suc n) = Data (suc n)

-- what comes after a size line of that size
abbrev pub after_size : Option ℕ → ChunkPlace
after_size None = Wrong
after_size (Some n) = if n == 0 then Trailers 0 else Data n

-- what comes after the line
unfoldable pub place_after_line : ChunkPlace → List ℕ → ChunkPlace
place_after_line Size text = after_size (size_of text)
place_after_line (Data n) text = Wrong
place_after_line Gap text = Size
place_after_line (Trailers n) text = if nat_le (length text) 0 then Done else Trailers (n + length text + 2)
place_after_line Done text = Done
place_after_line Wrong text = Wrong

-- these bytes begin a line that may stand here, and aren't the whole of one
abbrev pub IsOpen : ChunkPlace → List ℕ → Type 0
IsOpen place bytes =
    (bytes ≡ []) ⊎ (IsTrue (may_stand place bytes) ⊎ ((text : List ℕ) × IsTrue (may_stand place text) × (bytes ≡ text ++ 13 ∷ [])))

-- no line that may stand here begins with these bytes
abbrev pub NoLine : ChunkPlace → List ℕ → Type 0
NoLine place bytes = (text more : List ℕ) → IsTrue (may_stand place text) → text ++ crlf ≡ bytes ++ more → ⊥
