-- The statuses of a command, as numbers, and how the end of a session gives one.
use Rattle.std.specs.Prelude.{ℕ, Bool, true, false, Result, Ok, Err}
use Rattle.px_base.specs.declared.faults.FilesFault.{FilesFault}
use Rattle.px_base.specs.declared.faults.FilesFault.TheVariants as fault
use Rattle.px_notes.specs.declared.sessions.SessionEnd.{SessionEnd}
use Rattle.px_notes.specs.declared.sessions.SessionEnd.TheVariants as end
use Rattle.px_commands.specs.declared.statuses.Status.{Status}
use Rattle.px_commands.specs.declared.statuses.Status.TheVariants as status

abbrev pub code_of : Status → ℕ
code_of status.Done = 0
code_of status.NotLoaded = 1
code_of status.Usage = 2
code_of status.ReadFailed = 3
code_of status.WriteFailed = 4
code_of status.NoMemory = 5
code_of status.NoUrl = 6
code_of status.DoorsFailed = 7
code_of status.NoOrigin = 8

-- memory was wanting in a session that ended so
abbrev pub is_session_wanting : SessionEnd → Bool
is_session_wanting end.Ended = false
is_session_wanting end.Cut = false
is_session_wanting end.Closed = false
is_session_wanting end.Spent = false
is_session_wanting end.ReadFailed = false
is_session_wanting end.WriteFailed = false
is_session_wanting end.NoMemory = true

-- the status of a put, where nothing went wrong before it
abbrev pub status_of_put : {T : Type 0} → Result T FilesFault → Status
status_of_put (Ok done) = status.Done
status_of_put (Err fault.Failed) = status.WriteFailed
status_of_put (Err fault.Mem) = status.NoMemory

-- the status behind a session and the put of SENT: the first cause in time decides
abbrev pub status_after : {T : Type 0} → SessionEnd → Result T FilesFault → Status
status_after end.Ended put = status_of_put put
status_after end.Cut put = status_of_put put
status_after end.Closed put = status_of_put put
status_after end.Spent put = status_of_put put
status_after end.ReadFailed put = status.ReadFailed
status_after end.WriteFailed put = status.WriteFailed
status_after end.NoMemory put = status.NoMemory
