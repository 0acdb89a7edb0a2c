-- What the lines of a file become, as far as they are joined.
use Rattle.std.specs.Prelude.{◌≡◌, ℕ, ◌<◌, ◌≤◌, List, [], ◌∷◌, ◌++◌, length, Option, None, Some}
use Rattle.px_text.specs.declared.TheConstants.{LINE_LIMIT}
use Rattle.px_text.specs.declared.faults.TextFault.{TextFault}
use Rattle.px_text.specs.declared.faults.TextFault.TheVariants.{Mem, NotText, TooLong}
use Rattle.px_text.specs.declared.joinings.Joining.{Joining}
use Rattle.px_text.specs.declared.lines.Line.{Line}
use Rattle.px_text.specs.Faults.{IsTextRefusal, earlier, first_line_fault, first_not_text, first_too_long}
use Rattle.px_text.specs.Lines.{joined_lines, joined_to, kept_lines}

-- a line that isn't UTF-8 stands behind the first line of a joined line, and before `next`
abbrev pub IsLaterLine : ℕ → ℕ → Option ℕ → Type 0
IsLaterLine number next None = Unit {0}
IsLaterLine number next (Some line) = (number < line) × (line < next)

-- the numbers of a joining are in order, and its text isn't too long
pub record IsJoining (j : Joining) : Type 0 where
  pub ordered : j.number ≤ j.next
  pub fits : length j.text ≤ LINE_LIMIT
  pub later : IsLaterLine j.number j.next j.not_text

-- a fault that is known, else the one that may come
abbrev pub first_of : Option ℕ → Option ℕ → Option ℕ
first_of None later = later
first_of (Some line) later = Some line

-- the first line that isn't UTF-8, where this physical line comes next
abbrev pub noted_not_text : Joining → List ℕ → Option ℕ
noted_not_text j line = first_of j.not_text (first_not_text j.next (line ∷ []))

-- a joined line, trimmed and unless it is empty
abbrev pub kept_line : ℕ → List ℕ → List Line
kept_line number text = kept_lines (record { number = number; text = text } ∷ [])

-- the joining where its line ends before the physical line that comes next
abbrev pub with_ended_line : Joining → Joining
with_ended_line j = record { lines = j.lines ++ kept_line j.number j.text; text = []; number = j.next; next = j.next; not_text = None }

-- all joined lines that are still to come, where these physical lines follow
abbrev pub lines_to_come : Joining → List (List ℕ) → List Line
lines_to_come j rest = joined_to j.number j.text (joined_lines j.next rest)

-- all lines, where these physical lines follow
abbrev pub lines_after : Joining → List (List ℕ) → List Line
lines_after j rest = j.lines ++ kept_lines (lines_to_come j rest)

-- the first fault, where these physical lines follow
abbrev pub fault_after : Joining → List (List ℕ) → Option TextFault
fault_after j rest = earlier (first_of j.not_text (first_not_text j.next rest)) (first_too_long (lines_to_come j rest))

-- the refusal of a joined line that ends: a line that isn't UTF-8 was noted in it
abbrev pub IsNoted : Joining → TextFault → Type 0
IsNoted j (NotText line) = j.not_text ≡ Some line
IsNoted j (TooLong line) = ⊥
IsNoted j Mem = Unit {0}

-- nothing is joined yet
pub record IsFirst (j : Joining) : Type 0 where
  pub lines : (rest : List (List ℕ)) → lines_after j rest ≡ kept_lines (joined_lines 1 rest)
  pub fault : (rest : List (List ℕ)) → fault_after j rest ≡ first_line_fault rest

-- a physical line was added: whatever follows, all lines and the first fault stay
pub record AddsPhysicalLine (old : Joining) (line : List ℕ) (new : Joining) : Type 0 where
  pub lines : (rest : List (List ℕ)) → lines_after new rest ≡ lines_after old (line ∷ rest)
  pub fault : (rest : List (List ℕ)) → fault_after new rest ≡ fault_after old (line ∷ rest)

-- the refusal is the first fault, whatever follows the line
abbrev pub RefusesLine : Joining → List ℕ → TextFault → Type 0
RefusesLine j line e = (rest : List (List ℕ)) → IsTextRefusal (fault_after j (line ∷ rest)) e
