-- The refusal of header actions: its number and name.
use Rattle.std.specs.Prelude.{ℕ, List, codes}
use Rattle.px_headers.specs.declared.faults.HeaderFault.{HeaderFault}
use Rattle.px_headers.specs.declared.faults.HeaderFault.TheVariants.{BadRewrite, Mem}

-- the number; want of memory has none
abbrev pub header_fault_number : HeaderFault → ℕ
header_fault_number BadRewrite = 41
header_fault_number Mem = 0

abbrev pub header_fault_name : HeaderFault → List ℕ
header_fault_name BadRewrite = codes "BadRewrite"
header_fault_name Mem = codes "Mem"
