-- What comes of one dial of a server and the handshake with it.
use Rattle.std.specs.Prelude.{◌≡◌, ℕ, ◌⊎◌, true, false, IsTrue, List, [], ◌∷◌, ◌++◌, drop, Some, None, Result, Ok, Err}
use Rattle.px_base.specs.Sources.{SourceState, SourceGoesOn, given}
use Rattle.px_base.specs.Sinks.{SinkState, SinkGoesOn, AddsFront}
use Rattle.px_base.specs.Dials.{DialerState, HangsUp, is_open, Met, offers, nameless, unreached, untold, names_its_server, coming_behind, LeavesWanting}
use Rattle.px_base.specs.declared.dials.Dial.{Dial}
use Rattle.px_base.specs.declared.dials.DialOutcome.TheVariants as outcome
use Rattle.px_socks.specs.declared.ends.HandshakePassage.{HandshakePassage}
use Rattle.px_socks.specs.declared.servers.ServerStop.{ServerStop}
use Rattle.px_socks.specs.declared.servers.ServerStop.TheVariants as stop
use Rattle.px_socks.specs.Ends.{InnerSource, InnerSink, has_failed}
use Rattle.px_socks.specs.Comings.{accepted_length}
use Rattle.px_socks.specs.Messages.{due_messages, IsAccepted, Took, NoneAhead}
use Rattle.px_socks.specs.Replies.{IsHeardFront}
use Rattle.px_socks.specs.Notes.{IsRefusedBy, IsLostBy}

-- a link behind a handshake: nothing else went over it, and nothing failed
pub record IsBegun (passage : HandshakePassage) (i : SourceState) (o : SinkState) : Type 0 where
  pub no_read_failed : i.faults ≡ 0
  pub no_write_failed : o.faults ≡ 0
  pub not_finished : o.finished ≡ false
  pub rest_left : IsTrue i.tells → i.left ≡ drop passage.heard i.offered
  pub only_messages : IsTrue o.tells → o.taken ≡ passage.messages

-- both ends tell, and have one mark, which is that of an open link
pub record IsOpenLink (d : DialerState) (i : SourceState) (o : SinkState) : Type 0 where
  pub in_tells : IsTrue i.tells
  pub out_tells : IsTrue o.tells
  pub one_mark : o.mark ≡ i.mark
  pub there : is_open i.mark d.dials ≡ true

-- why a link is refused: an end of it failed, or what the server offers doesn't begin with accepted bytes
abbrev pub RefusedOver : SourceState → SinkState → SourceState → Type 0
RefusedOver i' o' i = (has_failed i'.faults ≡ true) ⊎ ((has_failed o'.faults ≡ true) ⊎ (IsTrue i.tells → NoneAhead IsAccepted i.offered))

-- the link was hung up; of the server no more was heard than might be accepted, and it had been sent a front of what was due by
-- that; all of it where it was refused without a failed write
pub record Hung (old new : DialerState) (i : SourceState) (o : SinkState) (messages : List ℕ) (s : ServerStop) : Type 0 where
  pub last_in : SourceState
  pub last_out : SinkState
  pub hung_up : HangsUp old new last_in last_out
  pub in_goes_on : SourceGoesOn i last_in
  pub out_goes_on : SinkGoesOn o last_out
  pub still_open : last_out.finished ≡ o.finished
  pub enough : IsTrue i.tells → IsTrue o.tells → IsHeardFront (given last_in)
  pub sent : IsTrue i.tells → IsTrue o.tells → AddsFront [] last_out.taken (due_messages (given last_in) messages)
  pub whole : IsTrue i.tells → IsTrue o.tells → s ≡ stop.Refused → has_failed last_out.faults ≡ false → last_out.taken ≡ due_messages (given last_in) messages
  pub why : s ≡ stop.Refused → RefusedOver last_in last_out i

-- the handshake over a link: it is as it was dialled, or was hung up
pub record IsBehindHandshake (i : SourceState) (o : SinkState) (messages : List ℕ) (link : InnerSource × InnerSink) : Type 0 where
  pub messages_sent : link.1.passage.messages ≡ messages
  pub one_passage : link.0.passage ≡ link.1.passage
  pub begun : IsBegun link.1.passage link.0.source link.1.sink
  pub accepted : IsTrue i.tells → Took IsAccepted link.0.passage.heard i.offered link.0.source.left
  pub in_goes_on : SourceGoesOn i link.0.source
  pub out_goes_on : SinkGoesOn o link.1.sink

-- a dial of that host and port with a link that is open
abbrev pub open_dial : List ℕ → ℕ → SourceState → Dial
open_dial host port i = record { host = host; port = port; outcome = outcome.Open i.mark i.offered }

-- a dial of that host and port was added, of whose outcome P is true
pub record AddsDial (old new : DialerState) (host : List ℕ) (port : ℕ) (P : Dial → Type 0) : Type 0 where
  pub dial : Dial
  pub added : new.dials ≡ old.dials ++ dial ∷ []
  pub to_host : dial.host ≡ host
  pub to_port : dial.port ≡ port
  pub outcome : P dial

-- both ends tell, and have a mark that no open link had
pub record IsNewLink (old : DialerState) (link : InnerSource × InnerSink) : Type 0 where
  pub in_tells : IsTrue link.0.source.tells
  pub out_tells : IsTrue link.1.sink.tells
  pub one_mark : link.1.sink.mark ≡ link.0.source.mark
  pub new_mark : is_open link.0.source.mark old.dials ≡ false
  pub accepted : Took IsAccepted link.0.passage.heard link.0.source.offered (drop link.0.passage.heard link.0.source.offered)

-- what came of it in the inner dials: a new open link, one refused or lost dial, or none where memory was wanting in the dial
abbrev pub ServesDial : DialerState → DialerState → List ℕ → ℕ → List ℕ → Result (InnerSource × InnerSink) ServerStop → Type 0
ServesDial old new host port messages (Ok link) = IsNewLink old link × (new.dials ≡ old.dials ++ open_dial host port link.0.source ∷ [])
ServesDial old new host port messages (Err stop.Refused) = AddsDial old new host port (λ d. IsRefusedBy messages d.outcome)
ServesDial old new host port messages (Err stop.Lost) = AddsDial old new host port (λ d. IsLostBy messages d.outcome)
ServesDial old new host port messages (Err stop.Mem) = new.dials ≡ old.dials

-- what came of a dial of a server, by what was to come of it: a link whose ends fail no more is accepted exactly where accepted
-- bytes stand at the front of what it offers, and so many are heard
abbrev pub CameOf : Met → Result (InnerSource × InnerSink) ServerStop → Type 0
CameOf m (Err stop.Lost) = Unit {0}
CameOf m (Err stop.Mem) = Unit {0}
CameOf (offers bytes true true) (Ok link) =
    (link.0.source.offered ≡ bytes) × (link.0.source.steady ≡ true) × (link.1.sink.steady ≡ true) × (accepted_length bytes ≡ Some link.0.passage.heard)
CameOf (offers bytes true true) (Err stop.Refused) = accepted_length bytes ≡ None
CameOf (offers bytes true false) (Ok link) = Unit {0}
CameOf (offers bytes true false) (Err stop.Refused) = Unit {0}
CameOf (offers bytes false writes) (Ok link) = Unit {0}
CameOf (offers bytes false writes) (Err stop.Refused) = Unit {0}
CameOf nameless (Ok link) = ⊥
CameOf nameless (Err stop.Refused) = Unit {0}
CameOf unreached (Ok link) = ⊥
CameOf unreached (Err stop.Refused) = Unit {0}
CameOf untold (Ok link) = Unit {0}
CameOf untold (Err stop.Refused) = Unit {0}

-- what a dial of that server leaves to come
abbrev pub LeavesBehind : DialerState → DialerState → List ℕ → Result (InnerSource × InnerSink) ServerStop → Type 0
LeavesBehind old new host (Ok link) = new.coming ≡ coming_behind old host
LeavesBehind old new host (Err stop.Refused) = new.coming ≡ coming_behind old host
LeavesBehind old new host (Err stop.Lost) = new.coming ≡ coming_behind old host
LeavesBehind old new host (Err stop.Mem) = LeavesWanting (names_its_server old.through_servers host) old.coming new.coming (coming_behind old host)
