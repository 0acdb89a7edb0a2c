-- The numbers and names of the refusals of a filter file.
use Rattle.std.specs.Prelude.{ℕ, List, ◌==◌, ◌≤◌, codes, if◌then◌else◌}
use Rattle.px_filter_files.specs.declared.faults.FilterFault.{FilterFault}
use Rattle.px_filter_files.specs.declared.faults.FilterFault.TheVariants.{At, Mem}

abbrev pub filter_fault_number : FilterFault → ℕ
filter_fault_number (At line number) = number
filter_fault_number Mem = 0

abbrev pub filter_fault_name : FilterFault → List ℕ
filter_fault_name (At line number) =
    if number == 25 then codes "JobBeforeFilter" else if number == 26 then codes "NameMissing" else codes "NameTwice"
filter_fault_name Mem = codes "Mem"

-- the number is one of the table
abbrev pub HasKnownNumber : FilterFault → Type 0
HasKnownNumber (At line number) = (25 ≤ number) × (number ≤ 27)
HasKnownNumber Mem = Unit {0}
