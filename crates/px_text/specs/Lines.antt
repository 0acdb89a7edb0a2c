-- The lines that a file's bytes stand for.
use Rattle.std.specs.Prelude.{ℕ, ◌+◌, ◌-◌, ◌&&◌, ◌==◌, nat_lt, nat_eq, not, Bool, List, [], ◌∷◌, ◌++◌, length, take, drop, slice_index, map, filter, if◌then◌else◌}
use Rattle.std.specs.List.{starts_with}
use Rattle.std.specs.Str.Lines.{lines}
use Rattle.px_base.specs.Blanks.{trimmed}
use Rattle.px_text.specs.declared.TheConstants.{BACKSLASH, BYTE_ORDER_MARK, HASH}
use Rattle.px_text.specs.declared.lines.Line.{Line}

-- the bytes without the byte order mark that they may begin with
abbrev pub without_mark : List ℕ → List ℕ
without_mark bytes = if starts_with nat_eq bytes BYTE_ORDER_MARK then drop (length BYTE_ORDER_MARK) bytes else bytes

-- the physical lines, each without its LF or CRLF
abbrev pub physical_lines : List ℕ → List (List ℕ)
physical_lines text = lines (without_mark text)

-- a line whose last byte is a backslash is continued by the next
abbrev pub is_continued : List ℕ → Bool
is_continued line = slice_index line (length line - 1) == BACKSLASH

-- the line without the backslash that continues it
abbrev pub without_continuation : List ℕ → List ℕ
without_continuation line = if is_continued line then take (length line - 1) line else line

-- the bytes before the first `#` that has no backslash directly before it, where `before` is the byte in front
unfoldable pub uncommented : ℕ → List ℕ → List ℕ
uncommented before [] = []
uncommented before (b ∷ bytes) = if b == HASH && not (before == BACKSLASH) then [] else b ∷ uncommented b bytes

-- the bytes with each `\#` written as `#`
unfoldable pub unescaped_line : List ℕ → List ℕ
unescaped_line [] = []
unescaped_line (b ∷ bytes) = if b == BACKSLASH && starts_with nat_eq bytes (HASH ∷ []) then unescaped_line bytes else b ∷ unescaped_line bytes

-- what a physical line adds to its joined line
unfoldable pub part : List ℕ → List ℕ
part line = unescaped_line (uncommented 0 (without_continuation line))

-- the lines with a text put in front of the first, which then has the text's number
unfoldable pub joined_to : ℕ → List ℕ → List Line → List Line
joined_to number text [] = record { number = number; text = text } ∷ []
joined_to number text (line ∷ rest) = record { number = number; text = text ++ line.text } ∷ rest

-- the joined lines of physical lines, the first of which has this number
unfoldable pub joined_lines : ℕ → List (List ℕ) → List Line
joined_lines number [] = []
joined_lines number (line ∷ rest) =
    if is_continued line then joined_to number (part line) (joined_lines (number + 1) rest)
    else record { number = number; text = part line } ∷ joined_lines (number + 1) rest

-- a joined line without the white space at both ends
abbrev pub trimmed_line : Line → Line
trimmed_line line = record { number = line.number; text = trimmed line.text }

-- the trimmed lines, empty ones left out
unfoldable pub kept_lines : List Line → List Line
kept_lines lines = filter (λ line. nat_lt 0 (length line.text)) (map trimmed_line lines)

-- the lines that a file's bytes stand for
unfoldable pub logical : List ℕ → List Line
logical text = kept_lines (joined_lines 1 (physical_lines text))
