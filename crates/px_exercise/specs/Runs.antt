-- The sessions of the job, each over memory, and what came of them.
use Rattle.std.specs.Prelude.{◌≡◌, ◌≢◌, ℕ, List, [], ◌∷◌, length, map, codes, All}
use Rattle.std.specs.List.{AllZip, flat_map, sum_by}
use Rattle.px_base.specs.Dials.{DialerState, fresh_dialer}
use Rattle.px_config.specs.declared.configs.Config.{Config}
use Rattle.px_publish.specs.Views.{Entry}
use Rattle.px_notes.specs.declared.sessions.SessionEnd.{SessionEnd}
use Rattle.px_notes.specs.declared.sessions.SessionEnd.TheVariants as end
use Rattle.px_serve.specs.Histories.{Begun, note_of}
use Rattle.px_pages.specs.Pages.{BareLaw}
use Rattle.px_serve.specs.Sessions.{IsSession}
use Rattle.px_serve.specs.Takings.{SuitsBegun}
use Rattle.px_generated.specs.Jobs.{draws_before, first_sessions, job_sessions}
use Rattle.px_generated.specs.declared.sessions.JobSession.{JobSession}
use Rattle.px_exercise.specs.declared.runs.SessionRun.{SessionRun}
use Rattle.px_exercise.specs.declared.runs.Total.{Total}

-- each look gives that configuration, with the number 0
abbrev pub GivesOnly : Config → List (Entry Config) → Type 0
GivesOnly config coming = coming ≡ record { number = 0; config = config } ∷ []

-- an exchange with that configuration, whose number is 0, at the moment 0
pub record UsesOnly (config : Config) (b : Begun) : Type 0 where
  pub number_is : b.number ≡ 0
  pub config_is : b.config ≡ config
  pub moment_is : b.moment ≡ 0

-- the address of each session's client
abbrev pub client : List ℕ
client = codes "127.0.0.1"

-- a session over what its client sends, whose dials give its answers, with one configuration, and what came of it; memory sufficed,
-- and neither the client's source nor its sink failed
pub record IsRun (config : Config) (session : JobSession) (run : SessionRun) : Type 0 where
  pub begun : List Begun
  pub notes_are : run.notes ≡ map note_of begun
  pub uses : All (UsesOnly config) begun
  pub left : List ℕ
  pub dialer : DialerState
  pub ended : SessionEnd
  -- no client has tags
  pub lawful : All (SuitsBegun BareLaw client) begun
  pub served : IsSession client session.input left (fresh_dialer session.answers) dialer [] run.taken begun ended
  pub memory : ended ≢ end.NoMemory
  pub no_read_failed : ended ≢ end.ReadFailed
  pub no_write_failed : ended ≢ end.WriteFailed

-- each session was run, in order
abbrev pub AreRuns : Config → List JobSession → List SessionRun → Type 0
AreRuns config sessions runs = AllZip (IsRun config) sessions runs

-- what came of sessions in all
abbrev pub total_of : List SessionRun → Total
total_of runs = record { notes = flat_map (λ r. r.notes) runs; returned = sum_by (λ r. length r.taken) runs }

-- the first sessions of the job of a number were run, so many, and came to that total; what the looks behind them give, and where the
-- draws stand
pub record HasRun (config : Config) (number count : ℕ) (coming : List (Entry Config)) (draws : ℕ) (total : Total) : Type 0 where
  pub fixed : GivesOnly config coming
  pub drawn : draws ≡ draws_before count number
  pub runs : List SessionRun
  pub each : AreRuns config (first_sessions count number) runs
  pub total_is : total ≡ total_of runs

-- all sessions of the job of a number were run, and came to that total
pub record AreRunsOf (config : Config) (number : ℕ) (total : Total) : Type 0 where
  pub runs : List SessionRun
  pub each : AreRuns config (job_sessions number) runs
  pub total_is : total ≡ total_of runs
