-- The ends of a session as contracts see them, and what lasts of them.
use Rattle.std.specs.Prelude.{◌≡◌, ℕ, List, [], IsTrue}
use Rattle.px_base.specs.Sources.{SourceGoesOn}
use Rattle.px_base.specs.Sinks.{SinkState, SinkGoesOn}
use Rattle.px_base.specs.Dials.{DialerState, DialerGoesOn, IsFresh}
use Rattle.px_base.specs.Moments.{ClockState, ClockGoesOn, IsFreshClock}
use Rattle.px_streams.specs.Feeds.{FeedState, bytes_behind}

pub record EndsState : Type 0 where
  -- the client's source, with the bytes that were read ahead of it
  pub client : FeedState
  pub client_out : SinkState
  pub dialer : DialerState
  pub clock : ClockState
  -- the client's address
  pub peer : List ℕ

-- the client's bytes that aren't used: those read ahead, and those that its source has left
abbrev pub client_stream : EndsState → List ℕ
client_stream e = bytes_behind e.client

-- the client's source, its sink and the dialer tell
pub record Tell (e : EndsState) : Type 0 where
  pub client : IsTrue e.client.source.tells
  pub client_out : IsTrue e.client_out.tells
  pub dialer : IsTrue e.dialer.tells

-- what lasts, whatever is done with them
pub record EndsGoOn (old new : EndsState) : Type 0 where
  pub client : SourceGoesOn old.client.source new.client.source
  pub client_out : SinkGoesOn old.client_out new.client_out
  pub dialer : DialerGoesOn old.dialer new.dialer
  pub clock : ClockGoesOn old.clock new.clock
  pub peer_same : new.peer ≡ old.peer

-- nothing was given, taken or dialled, no count rose, and a clock that tells has given no moment
pub record IsFreshEnds (e : EndsState) : Type 0 where
  pub ends : IsFresh (record { link_in = e.client.source; link_out = e.client_out })
  pub none_ahead : e.client.ahead ≡ []
  pub none_dialled : e.dialer.dials ≡ []
  pub no_name_failed : e.dialer.names ≡ 0
  pub no_reach_failed : e.dialer.reach ≡ 0
  pub no_link_read_failed : e.dialer.link_reads ≡ 0
  pub no_link_write_failed : e.dialer.link_writes ≡ 0
  pub none_opened : e.dialer.opened ≡ 0
  pub none_hung_up : e.dialer.hung_up ≡ 0
  pub clock : IsFreshClock e.clock
