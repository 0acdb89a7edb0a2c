-- What came of the command `exercise`.
use Rattle.std.proofs.Common.{ℕ, List, IsTrue, refl, inl, inr}
use Rattle.px_base.specs.Contents.{FilesState}
use Rattle.px_base.specs.Moments.{ClockState}
use Rattle.px_base.specs.Sinks.{SinkState}
use Rattle.px_base.specs.Sources.{SourceState}
use Rattle.px_config.specs.FaultLines.{fault_text}
use Rattle.px_config.specs.declared.faults.LoadFault.{LoadFault}
use Rattle.px_exercise.specs.Exercises.{Exercises, IsExerciseFault}
use Rattle.px_exercise.specs.declared.faults.ExerciseFault.TheVariants as fault
use Rattle.px_commands.specs.declared.statuses.Status.{Status}
use Rattle.px_commands.specs.declared.statuses.Status.TheVariants as status
use Rattle.px_commands.specs.Exercising.{RunsExercise}
use Rattle.px_commands.specs.Loads.{ReportsOrWants, load_status}
use Rattle.px_commands.specs.Passes.{ReportCause, ReportsOn}
use Rattle.px_commands.proofs.LoadLemmas.{gives_up, prints_by, reports_by}

-- the lines were printed
pub exercise_prints : (number : ℕ) (f : FilesState) (i : SourceState) (o o' e : SinkState) (t : ClockState) (text : List ℕ) (s : Status)
    → Exercises number text → (IsTrue o.tells → ReportsOn o.taken o'.taken text status.Done s) → ReportCause o o' status.Done s
    → RunsExercise number (record { files = f; input = i; out = o; errors = e; clock = t }) (record { files = f; input = i; out = o'; errors = e; clock = t }) s
exercise_prints number f i o o' e t text s is printed cause =
    inl (record { text = text; exercises = is; prints = prints_by f f i o o' e t text s (λ told name. refl) printed cause })

-- the job's files don't load
pub exercise_fails : (number : ℕ) (f : FilesState) (i : SourceState) (o e e' : SinkState) (t : ClockState) (load_fault : LoadFault) (s : Status)
    → IsExerciseFault number (fault.NotLoaded load_fault) → ReportsOrWants e e' (fault_text load_fault) (load_status load_fault) s
    → RunsExercise number (record { files = f; input = i; out = o; errors = e; clock = t }) (record { files = f; input = i; out = o; errors = e'; clock = t }) s
exercise_fails number f i o e e' t load_fault s is (inl reported) =
    inr (inl (record { load_fault = load_fault; is_fault = is; reports = reports_by f f i o e e' t (fault_text load_fault) (load_status load_fault) s (λ told name. refl) reported.0 reported.1 }))
exercise_fails number f i o e e' t load_fault s is (inr wants) = inr (inr (gives_up f f i o e e' t s (λ told name. refl) wants.0 wants.1))

-- memory was wanting
pub exercise_wants : (number : ℕ) (f : FilesState) (i : SourceState) (o e : SinkState) (t : ClockState)
    → RunsExercise number (record { files = f; input = i; out = o; errors = e; clock = t }) (record { files = f; input = i; out = o; errors = e; clock = t }) status.NoMemory
exercise_wants number f i o e t = inr (inr (gives_up f f i o e e t status.NoMemory (λ told name. refl) refl refl))

pub ruleset exercise_rules = (exercise_prints, exercise_fails, exercise_wants)
