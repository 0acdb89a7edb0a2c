-- The whole job by its number: the draws of the files come first, then those of the sessions in their order.
use Rattle.std.specs.Prelude.{ℕ, ◌+◌, ◌*◌, List, map}
use Rattle.std.specs.List.{range_with_len}
use Rattle.px_generated.specs.Draws.{after_draws}
use Rattle.px_generated.specs.Sessions.{session_from}
use Rattle.px_generated.specs.declared.sessions.JobSession.{JobSession}

-- where the draws stand before the session behind so many others
unfoldable pub draws_before : ℕ → ℕ → ℕ
draws_before count seed = after_draws (3000 + 300 * count) seed

-- the session behind so many others
unfoldable pub session_at : ℕ → ℕ → JobSession
session_at count seed = session_from (draws_before count seed)

-- so many sessions of the job, the first ones
unfoldable pub first_sessions : ℕ → ℕ → List JobSession
first_sessions count seed = map (λ k. session_at k seed) (range_with_len 0 count)

-- all sessions of the job
unfoldable pub job_sessions : ℕ → List JobSession
job_sessions seed = first_sessions 10 seed
