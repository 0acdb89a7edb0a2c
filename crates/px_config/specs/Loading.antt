-- Why a configuration isn't loaded.
use Rattle.std.specs.Prelude.{◌≡◌, ℕ, Result, MatchResult}
use Rattle.px_base.specs.Causes.{Rose}
use Rattle.px_base.specs.Contents.{FilesState}
use Rattle.px_config.specs.declared.faults.LoadFault.{LoadFault}
use Rattle.px_config.specs.declared.faults.LoadFault.TheVariants as fault
use Rattle.px_config.specs.Faults.{Fault, fault_at}

-- the fault is that of the gathered files; a file that couldn't be read and want of memory have no cause in them
abbrev pub IsLoadFault : {X : Type 0} → Result X Fault → LoadFault → Type 0
IsLoadFault {X} meaning (fault.Spelled file line number) = meaning ≡ fault_at file line number
IsLoadFault {X} meaning (fault.Read file) = Unit {0}
IsLoadFault {X} meaning fault.Mem = Unit {0}

-- a file couldn't be read only where the count rose; a fault that the files spell leaves the count
abbrev pub LoadCause : ℕ → ℕ → LoadFault → Type 0
LoadCause before now (fault.Spelled file line number) = now ≡ before
LoadCause before now (fault.Read file) = Rose before now
LoadCause before now fault.Mem = now ≡ before

abbrev pub LoadCauses : {T : Type 0} → FilesState → FilesState → Result T LoadFault → Type 0
LoadCauses old new result = MatchResult result (λ _. new.read_faults ≡ old.read_faults) (λ f. LoadCause old.read_faults new.read_faults f)
