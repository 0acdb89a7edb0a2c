-- Which refusal a file's bytes have, and the number and the name of each.
use Rattle.std.specs.Prelude.{◌≡◌, ℕ, ◌+◌, nat_le, List, [], ◌∷◌, length, Option, None, Some, codes, if◌then◌else◌}
use Rattle.std.specs.Str.{is_utf8}
use Rattle.px_text.specs.declared.TheConstants.{LINE_LIMIT}
use Rattle.px_text.specs.declared.lines.Line.{Line}
use Rattle.px_text.specs.declared.faults.TextFault.{TextFault}
use Rattle.px_text.specs.declared.faults.TextFault.TheVariants.{Mem, NotText, TooLong}
use Rattle.px_text.specs.Lines.{joined_lines, physical_lines}

-- the number of the first line that isn't UTF-8, where the first of all has this number
unfoldable pub first_not_text : ℕ → List (List ℕ) → Option ℕ
first_not_text number [] = None
first_not_text number (line ∷ rest) = if is_utf8 line then first_not_text (number + 1) rest else Some number

-- the number of the first joined line that has more bytes than a line may have
unfoldable pub first_too_long : List Line → Option ℕ
first_too_long [] = None
first_too_long (line ∷ rest) = if nat_le (length line.text) LINE_LIMIT then first_too_long rest else Some line.number

-- of two faults the one at the smaller number; at the same number that the line isn't text
abbrev pub earlier : Option ℕ → Option ℕ → Option TextFault
earlier None None = None
earlier (Some line) None = Some (NotText line)
earlier None (Some line) = Some (TooLong line)
earlier (Some line) (Some long) = if nat_le line long then Some (NotText line) else Some (TooLong long)

-- the first fault of physical lines
unfoldable pub first_line_fault : List (List ℕ) → Option TextFault
first_line_fault lines = earlier (first_not_text 1 lines) (first_too_long (joined_lines 1 lines))

-- the refusal at the smallest line of a file, if there is one
abbrev pub first_text_fault : List ℕ → Option TextFault
first_text_fault text = first_line_fault (physical_lines text)

-- the refusal is this fault, or want of memory, which has no cause in the text
abbrev pub IsTextRefusal : Option TextFault → TextFault → Type 0
IsTextRefusal fault (NotText line) = fault ≡ Some (NotText line)
IsTextRefusal fault (TooLong line) = fault ≡ Some (TooLong line)
IsTextRefusal fault Mem = Unit {0}

-- the number under which a refusal is printed
abbrev pub text_fault_number : TextFault → ℕ
text_fault_number (NotText line) = 1
text_fault_number (TooLong line) = 2
text_fault_number Mem = 0

-- the name under which a refusal is printed
abbrev pub text_fault_name : TextFault → List ℕ
text_fault_name (NotText line) = codes "NotText"
text_fault_name (TooLong line) = codes "TooLong"
text_fault_name Mem = codes "Mem"
