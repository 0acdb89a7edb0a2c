-- The numbers and names of the refusals of a job. The number of want of memory is never asked for.
use Rattle.std.specs.Prelude.{ℕ, List, codes}
use Rattle.px_subst.specs.declared.faults.JobFault.{JobFault}
use Rattle.px_subst.specs.declared.faults.JobFault.TheVariants.{NoDelimiter, Unfinished, BadFlag, BadRegex, Mem}

abbrev pub job_fault_number : JobFault → ℕ
job_fault_number NoDelimiter = 21
job_fault_number Unfinished = 22
job_fault_number BadFlag = 23
job_fault_number BadRegex = 24
job_fault_number Mem = 0

abbrev pub job_fault_name : JobFault → List ℕ
job_fault_name NoDelimiter = codes "NoDelimiter"
job_fault_name Unfinished = codes "Unfinished"
job_fault_name BadFlag = codes "BadFlag"
job_fault_name BadRegex = codes "BadRegex"
job_fault_name Mem = codes "Mem"
