-- The sessions so far; each took fewer bytes than 2 ^ 64.
use Rattle.std.proofs.Common.{◌≡◌, ◌*◌, ◌^◌, ◌≤◌, ◌∷◌, [], ℕ}
use Rattle.std.specs.Arc.{arc_value}
use Rattle.px_generated.specs.Jobs.{draws_before}
use Rattle.px_exercise.specs.Runs.{HasRun}
use Rattle.px_exercise.proofs.runs.run_all.Given as goal

abbrev pub invariant-sessions : goal.invariant-sessions
invariant-sessions g l = record {
  so_far : (number : ℕ) → l.fn.draws ≡ draws_before 0 number
      → HasRun l.fn.config number l.counter (record { number = 0; config = arc_value l.configs.config } ∷ []) l.draws l.total;
  room : l.total.returned ≤ l.counter * 2 ^ 64;
}
