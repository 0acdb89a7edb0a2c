-- The one client of `pass`, and its session over a dialer.
use Rattle.std.specs.Prelude.{◌≡◌, ◌≢◌, ℕ, Bool, true, false, IsTrue, List, [], codes}
use Rattle.px_base.specs.contracts.tape_in.TapeInSource.TheImpl as tape_in
use Rattle.px_base.specs.contracts.tape_out.TapeOutSink.TheImpl as tape_out
use Rattle.px_base.specs.declared.tape_in.TapeIn.{TapeIn}
use Rattle.px_base.specs.declared.tape_out.TapeOut.{TapeOut}
use Rattle.px_base.specs.Sources.{SourceState, SourceGoesOn}
use Rattle.px_base.specs.Sinks.{SinkState, SinkGoesOn}
use Rattle.px_base.specs.Moments.{ClockState, ClockGoesOn}
use Rattle.px_base.specs.Dials.{DialerState}
use Rattle.px_ends.specs.Ends.{EndsState}
use Rattle.px_socks.specs.Ends.{InnerSource, InnerSink, socks_source, socks_sink}
use Rattle.px_link_pool.specs.Histories.{Views}
use Rattle.px_notes.specs.declared.sessions.ExchangeNote.{ExchangeNote}
use Rattle.px_notes.specs.declared.sessions.SessionEnd.{SessionEnd}
use Rattle.px_notes.specs.declared.sessions.SessionEnd.TheVariants as end
use Rattle.px_pages.specs.Pages.{FitsPages}
use Rattle.px_serve.specs.Histories.{Begun, Looks}
use Rattle.px_serve.specs.Sessions.{IsSessionOf, Serves}
use Rattle.px_shared.specs.Links.{EachAnswered, NoTunnel, with_heard}
use Rattle.px_shared.specs.Sharing.{LeavesPool, pooled}
use Rattle.px_commands.specs.declared.clients.Streams.{Streams}

-- how the ends of a link in memory are seen
abbrev pub in_memory : Views TapeIn TapeOut
in_memory = record { ins = tape_in.ghosts.state; outs = tape_out.ghosts.state }

-- how the ends of a link through a SOCKS server are seen
abbrev pub server_views : Views InnerSource InnerSink
server_views = record { ins = socks_source; outs = socks_sink }

-- the input, the output and the clock of a session
pub record StreamsState : Type 0 where
  pub input : SourceState
  pub out : SinkState
  pub clock : ClockState

abbrev pub streams_as : {S O T : Type 0} → (S → SourceState) → (O → SinkState) → (T → ClockState) → Streams S O T → StreamsState
streams_as ins outs times s = record { input = ins s.input; out = outs s.out; clock = times s.clock }

-- what lasts of them, whatever is done
pub record StreamsGoOn (old new : StreamsState) : Type 0 where
  pub input : SourceGoesOn old.input new.input
  pub out : SinkGoesOn old.out new.out
  pub clock : ClockGoesOn old.clock new.clock

-- the ends of a session with these streams, where those bytes were read ahead of the input, over that dialer
abbrev pub client_ends : StreamsState → List ℕ → DialerState → EndsState
client_ends s ahead d = record { client = record { source = s.input; ahead = ahead }; client_out = s.out; dialer = d; clock = s.clock; peer = codes "127.0.0.1" }

-- a session's dialer as it begins, by whether its requests share links: a pool that was just made over a dialer, or the dialer itself
abbrev pub begun_over : Bool → DialerState → DialerState
begun_over true d = pooled d
begun_over false d = d

-- what is left of a session's dialer: the one below its pool, which was taken apart, or the dialer itself
abbrev pub LeftOf : {S T : Type 0} → Views S T → Bool → DialerState → DialerState → Type 0
LeftOf v true own left = (wanting : ℕ) × LeavesPool v own left wanting
LeftOf v false own left = left ≡ own

-- the ends whose dials each offer just what was heard
abbrev pub heard_ends : EndsState → EndsState
heard_ends e = record { client = e.client; client_out = e.client_out; dialer = with_heard e.dialer; clock = e.clock; peer = e.peer }

-- where one whole answer was heard over each link, no tunnel was carried and memory wasn't wanting, a session is the one over new
-- links each of which offers just its answer
abbrev pub IsAlone : EndsState → EndsState → SessionEnd → Type 0
IsAlone old new e = (begun : List Begun) → IsSessionOf old new begun e → EachAnswered new.dialer.dials → NoTunnel begun → e ≢ end.NoMemory
    → IsSessionOf (heard_ends old) (heard_ends new) begun e

-- a session between ends, whose client has these tags, by whether its requests share links; what is left of the ends is those behind it, but for the dialer
pub record ServesEnds {S T : Type 0} (v : Views S T) (sharing : Bool) (tags : List (List ℕ)) (looks : Looks) (old new : EndsState) (e : SessionEnd) : Type 0 where
  pub looks_after : Looks
  pub notes : List ExchangeNote
  -- the ends behind the session
  pub own : EndsState
  pub serves : Serves (FitsPages tags) looks looks_after (record old { dialer = begun_over sharing old.dialer }) own notes e
  pub left : LeftOf v sharing own.dialer new.dialer
  pub rest : new ≡ record own { dialer = new.dialer }
  pub alone : IsTrue sharing → IsTrue old.dialer.tells → IsAlone (record old { dialer = begun_over sharing old.dialer }) own e

-- the session of the one client over a dialer that is in the one state before it and in the other behind it, by whether its requests
-- share links
pub record ServesClient {S T : Type 0} (v : Views S T) (sharing : Bool) (tags : List (List ℕ)) (looks : Looks) (old new : StreamsState) (d d' : DialerState) (e : SessionEnd) : Type 0 where
  pub looks_after : Looks
  pub notes : List ExchangeNote
  -- the session's dialer behind it
  pub dialer : DialerState
  -- what was read ahead of the input, and isn't used
  pub ahead : List ℕ
  pub serves : Serves (FitsPages tags) looks looks_after (client_ends old [] (begun_over sharing d)) (client_ends new ahead dialer) notes e
  pub left : LeftOf v sharing dialer d'
  pub alone : IsTrue sharing → IsTrue d.tells → IsAlone (client_ends old [] (begun_over sharing d)) (client_ends new ahead dialer) e
