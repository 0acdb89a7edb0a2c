-- What the command `exercise` does with its number.
use Rattle.std.specs.Prelude.{◌≡◌, ℕ, List, Result, Ok, codes}
use Rattle.px_base.specs.Folders.{holds}
use Rattle.px_config.specs.Faults.{Fault, fault_at}
use Rattle.px_config.specs.Gathering.{gathered}
use Rattle.px_config.specs.Spelling.{ConfigSeen, seen_config, spelled}
use Rattle.px_config.specs.declared.configs.Config.{Config}
use Rattle.px_config.specs.declared.faults.LoadFault.TheVariants as load
use Rattle.px_generated.specs.Files.{files_from}
use Rattle.px_exercise.specs.Counts.{lines}
use Rattle.px_exercise.specs.Runs.{AreRunsOf}
use Rattle.px_exercise.specs.declared.faults.ExerciseFault.{ExerciseFault}
use Rattle.px_exercise.specs.declared.faults.ExerciseFault.TheVariants as fault
use Rattle.px_exercise.specs.declared.runs.Total.{Total}

-- what files spell, names with contents
abbrev pub spelled_by : List (List ℕ × List ℕ) → Result ConfigSeen Fault
spelled_by files = spelled (gathered (holds files) (codes "config"))

-- what the files of the job of a number spell
abbrev pub job_spelled : ℕ → Result ConfigSeen Fault
job_spelled number = spelled_by (files_from number)

-- the five lines of the job of a number: of its ten sessions with the configuration that its files spell
pub record Exercises (number : ℕ) (text : List ℕ) : Type 0 where
  pub config : Config
  pub spelled : job_spelled number ≡ Ok (seen_config config)
  pub total : Total
  pub runs : AreRunsOf config number total
  pub text_is : text ≡ lines total

-- a fault of the files is the one that they spell; want of memory has no cause in the number
abbrev pub IsExerciseFault : ℕ → ExerciseFault → Type 0
IsExerciseFault number (fault.NotLoaded (load.Spelled file line refusal)) = job_spelled number ≡ fault_at file line refusal
IsExerciseFault number (fault.NotLoaded (load.Read file)) = ⊥
IsExerciseFault number (fault.NotLoaded load.Mem) = ⊥
IsExerciseFault number fault.Mem = Unit {0}
