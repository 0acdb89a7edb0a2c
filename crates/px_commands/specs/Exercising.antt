-- What the command `exercise` does.
use Rattle.std.specs.Prelude.{◌≡◌, ℕ, ◌⊎◌, List}
use Rattle.px_config.specs.FaultLines.{fault_text}
use Rattle.px_config.specs.declared.faults.LoadFault.{LoadFault}
use Rattle.px_exercise.specs.Exercises.{Exercises, IsExerciseFault}
use Rattle.px_exercise.specs.declared.faults.ExerciseFault.TheVariants as fault
use Rattle.px_commands.specs.declared.statuses.Status.{Status}
use Rattle.px_commands.specs.Loads.{Prints, load_status}
use Rattle.px_commands.specs.Passes.{GivesUp, Outside, Reports}

-- the five lines of the job of a number were printed
pub record PrintsExercise (number : ℕ) (old new : Outside) (s : Status) : Type 0 where
  pub text : List ℕ
  pub exercises : Exercises number text
  pub prints : Prints old new text s

-- the files of the job don't load
pub record FailsToLoadJob (number : ℕ) (old new : Outside) (s : Status) : Type 0 where
  pub load_fault : LoadFault
  pub is_fault : IsExerciseFault number (fault.NotLoaded load_fault)
  pub reports : Reports old new (fault_text load_fault) (load_status load_fault) s

-- with the words of `exercise`
abbrev pub RunsExercise : ℕ → Outside → Outside → Status → Type 0
RunsExercise number old new s = PrintsExercise number old new s ⊎ (FailsToLoadJob number old new s ⊎ GivesUp old new s)
