-- The faults of a configuration's files.
use Rattle.std.specs.Prelude.{◌≡◌, ℕ, ◌==◌, List, [], Result, Ok, Err, codes, if◌then◌else◌}
use Rattle.px_action_files.specs.Faults.{Refused}
use Rattle.px_action_files.specs.declared.faults.FileFault.{FileFault}
use Rattle.px_action_files.specs.declared.faults.FileFault.TheVariants as at
use Rattle.px_config.specs.declared.faults.LoadFault.{LoadFault}
use Rattle.px_config.specs.declared.faults.LoadFault.TheVariants as fault

-- a file by its name, a line, and the number of the refusal
pub record Fault : Type 0 where
  pub file : List ℕ
  pub line : ℕ
  pub number : ℕ

abbrev pub fault_at : {X : Type 0} → List ℕ → ℕ → ℕ → Result X Fault
fault_at file line number = Err (record { file = file; line = line; number = number })

-- what a file gives; a refusal has the file's name
abbrev pub at_file : {X : Type 0} → List ℕ → Result X Refused → Result X Fault
at_file file (Ok x) = Ok x
at_file file (Err r) = fault_at file r.line r.number

-- the fault is that of the files, or want of memory, which has no cause there
abbrev pub IsFault : {X : Type 0} → Result X Fault → LoadFault → Type 0
IsFault {X} meaning (fault.Spelled file line number) = meaning ≡ fault_at file line number
IsFault {X} meaning (fault.Read file) = ⊥
IsFault {X} meaning fault.Mem = Unit {0}

-- the fault isn't that a file couldn't be read
abbrev pub IsNoRead : LoadFault → Type 0
IsNoRead (fault.Spelled file line number) = Unit {0}
IsNoRead (fault.Read file) = ⊥
IsNoRead fault.Mem = Unit {0}

-- the refusal at a line of a file, with the file's name
abbrev pub IsRefusalOf : List ℕ → FileFault → LoadFault → Type 0
IsRefusalOf name (at.At line number) (fault.Spelled file l n) = (file ≡ name) × ((l ≡ line) × (n ≡ number))
IsRefusalOf name (at.At line number) (fault.Read file) = ⊥
IsRefusalOf name (at.At line number) fault.Mem = Unit {0}
IsRefusalOf name at.Mem (fault.Spelled file l n) = ⊥
IsRefusalOf name at.Mem (fault.Read file) = ⊥
IsRefusalOf name at.Mem fault.Mem = Unit {0}
