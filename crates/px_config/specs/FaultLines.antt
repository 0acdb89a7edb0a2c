-- Why a configuration isn't loaded, as it is printed.
use Rattle.std.specs.Prelude.{ℕ, ◌==◌, List, [], ◌∷◌, ◌++◌, decimal, codes, if◌then◌else◌}
use Rattle.px_action_files.specs.Faults.{refusal_name}
use Rattle.px_config.specs.declared.faults.LoadFault.{LoadFault}
use Rattle.px_config.specs.declared.faults.LoadFault.TheVariants as fault

-- the names of the refusals of filter files, templates, and of values and whole files
abbrev pub name_of_file : ℕ → List ℕ
name_of_file number =
    if number == 25 then codes "JobBeforeFilter"
    else if number == 26 then codes "NameMissing"
    else if number == 27 then codes "NameTwice"
    else if number == 28 then codes "OpenCondition"
    else if number == 29 then codes "BadValue"
    else if number == 30 then codes "NotLoopback"
    else if number == 31 then codes "TooLarge"
    else if number == 32 then codes "Missing"
    else refusal_name number

-- the names of refusals by their numbers
unfoldable pub load_name : ℕ → List ℕ
load_name number =
    if number == 1 then codes "NotText"
    else if number == 2 then codes "TooLong"
    else name_of_file number

-- FILE:LINE: NUMBER NAME, and LF
abbrev pub fault_line : List ℕ → ℕ → ℕ → List ℕ → List ℕ
fault_line file line number name = file ++ 58 ∷ decimal line ++ codes ": " ++ decimal number ++ 32 ∷ name ++ 10 ∷ []

-- the line of a fault; a file that couldn't be read has the line 0, and want of memory has no line
abbrev pub fault_text : LoadFault → List ℕ
fault_text (fault.Spelled file line number) = fault_line file line number (load_name number)
fault_text (fault.Read file) = fault_line file 0 33 (codes "ReadFault")
fault_text fault.Mem = []
