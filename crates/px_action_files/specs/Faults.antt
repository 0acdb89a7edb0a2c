-- The refusals of actions files: a line and a number.
use Rattle.std.specs.Prelude.{◌≡◌, ℕ, ◌==◌, if◌then◌else◌, List, [], Result, Ok, Err, codes}
use Rattle.px_patterns.specs.Faults.{pattern_fault_number}
use Rattle.px_patterns.specs.declared.faults.PatternFault.{PatternFault}
use Rattle.px_actions.specs.Faults.{refusal}
use Rattle.px_actions.specs.declared.faults.ActionFault.{ActionFault}
use Rattle.px_action_files.specs.declared.faults.FileFault.{FileFault}
use Rattle.px_action_files.specs.declared.faults.FileFault.TheVariants as fault

-- a line that is refused, and the number of the refusal
pub record Refused : Type 0 where
  pub line : ℕ
  pub number : ℕ

abbrev pub refused : {X : Type 0} → ℕ → ℕ → Result X Refused
refused line number = Err (record { line = line; number = number })

-- the number of a refused word
abbrev pub word_number : ActionFault → ℕ
word_number f = (refusal f).number

-- what is read at a line; a refusal has that line
abbrev pub at_line : {X F : Type 0} → ℕ → (F → ℕ) → Result X F → Result X Refused
at_line line number (Ok x) = Ok x
at_line line number (Err f) = refused line (number f)

-- what goes on from a value, or the refusal
abbrev pub and_then : {X Y F : Type 0} → Result X F → (X → Result Y F) → Result Y F
and_then (Ok x) rest = rest x
and_then (Err f) rest = Err f

-- the answer is the refusal that the text has, or want of memory, which has no cause there
abbrev pub IsReported : {X : Type 0} → Result X Refused → FileFault → Type 0
IsReported {X} meaning (fault.At line number) = meaning ≡ refused line number
IsReported {X} meaning fault.Mem = Unit {0}

-- a refusal with its number as it is reported; want of memory has the number 0
abbrev pub reported : ℕ → ℕ → FileFault
reported line number = if number == 0 then fault.Mem else fault.At line number

-- a refused word as it is reported
abbrev pub reported_word : ℕ → ActionFault → FileFault
reported_word line f = reported line (word_number f)

-- a refused pattern as it is reported
abbrev pub reported_pattern : ℕ → PatternFault → FileFault
reported_pattern line f = reported line (pattern_fault_number f)

-- the names of the refusals of files, and of the words and patterns in them, by their numbers
unfoldable pub refusal_name : ℕ → List ℕ
refusal_name number =
    if number == 3 then codes "HasProtocol"
    else if number == 4 then codes "BadPort"
    else if number == 5 then codes "BadClass"
    else if number == 6 then codes "BadRegex"
    else if number == 7 then codes "EmptyLabel"
    else if number == 12 then codes "UnknownAction"
    else if number == 13 then codes "ParameterWanted"
    else if number == 14 then codes "ParameterUnwanted"
    else if number == 15 then codes "BadParameter"
    else if number == 16 then codes "OpenBrace"
    else if number == 17 then codes "PatternBeforeSection"
    else if number == 18 then codes "SecondAliasBlock"
    else if number == 19 then codes "LateAliasBlock"
    else if number == 20 then codes "AliasTwice"
    else if number == 42 then codes "BadAddress"
    else if number == 44 then codes "BadBlock"
    else []

abbrev pub file_fault_number : FileFault → ℕ
file_fault_number (fault.At line number) = number
file_fault_number fault.Mem = 0

abbrev pub file_fault_name : FileFault → List ℕ
file_fault_name (fault.At line number) = refusal_name number
file_fault_name fault.Mem = codes "Mem"
