-- What is kept of a connection that was served, as contracts see it.
use Rattle.std.specs.Prelude.{ℕ}
use Rattle.px_ends.specs.Ends.{EndsState}
use Rattle.px_notes.specs.declared.sessions.Session.{Session}

pub record PartedState : Type 0 where
  -- the place of the connection among those accepted, from 0
  pub number : ℕ
  -- the number of the configuration with which it was handed out
  pub handed : ℕ
  pub session : Session
  pub ends : EndsState
