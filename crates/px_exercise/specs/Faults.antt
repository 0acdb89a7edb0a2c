-- Why a job gives no lines.
use Rattle.px_config.specs.declared.faults.LoadFault.{LoadFault}
use Rattle.px_config.specs.declared.faults.LoadFault.TheVariants as load
use Rattle.px_exercise.specs.declared.faults.ExerciseFault.{ExerciseFault}
use Rattle.px_exercise.specs.declared.faults.ExerciseFault.TheVariants as fault

-- by why the job's files didn't load
abbrev pub exercise_fault_of : LoadFault → ExerciseFault
exercise_fault_of (load.Spelled file line number) = fault.NotLoaded (load.Spelled file line number)
exercise_fault_of (load.Read file) = fault.NotLoaded (load.Read file)
exercise_fault_of load.Mem = fault.Mem
