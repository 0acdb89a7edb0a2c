-- One exchange: what was dialled, what was read of the client, and how much of its line of the table stands.
use Rattle.std.specs.Prelude.{◌≡◌, ℕ, not, ◌==◌, Bool, true, false, IsTrue, ◌||◌, List, [], take}
use Rattle.px_base.specs.Sources.{SourceState, given}
use Rattle.px_base.specs.Sinks.{SinkState}
use Rattle.px_base.specs.Dials.{DialerState}
use Rattle.px_base.specs.declared.dials.LinkSeen.{LinkSeen}
use Rattle.px_base.specs.declared.dials.DialOutcome.TheVariants as outcome
use Rattle.px_ways.specs.Directions.{AddsSome}
use Rattle.px_ways.specs.declared.directions.TheConstants.{DIRECTION_LIMIT}
use Rattle.px_streams.specs.Streams.{IsStream}
use Rattle.px_framing.specs.declared.places.State.TheVariants as state
use Rattle.px_decide.specs.declared.routes.Route.{Route}
use Rattle.px_config.specs.declared.configs.Config.{Config}
use Rattle.px_notes.specs.declared.messages.Message.{Message}
use Rattle.px_notes.specs.declared.messages.Sent.{Sent}
use Rattle.px_notes.specs.declared.messages.Sent.TheVariants as sent
use Rattle.px_notes.specs.declared.endings.Conclusion.{Conclusion}
use Rattle.px_sending.specs.Sends.{RoseWhere, behind_body, body_in, end_of_body, is_link_failed, is_read_failed}
use Rattle.px_judging.specs.declared.judgements.Judgement.{Judgement}
use Rattle.px_pumps.specs.declared.talks.Talked.{Talked}
use Rattle.px_pumps.specs.declared.talks.Talked.TheVariants as talked
use Rattle.px_exchange.specs.Dialling.{DialsOnce}
use Rattle.px_exchange.specs.Rows.{Came, Forward, NoName, NotReached, Over, Reply, Task, Through, Tunnel, Undialled, task_page, exchange_row, task_of}
use Rattle.px_exchange.specs.Standing.{Stands}

-- a client's stream behind the request's head, and what of it is left behind the exchange
pub record Client : Type 0 where
  pub stream : List ℕ
  pub behind : List ℕ

-- what went over a link whose ends are so now
abbrev pub link_seen : SourceState → SinkState → LinkSeen
link_seen i o = record {
  offered = i.offered;
  heard = given i;
  sent = o.taken;
  read_failed = not (i.faults == 0);
  write_failed = not (o.faults == 0);
  finished = o.finished;
}

-- ---- what was dialled

-- at most one dial was added, by that route
abbrev pub DialsBy : Route → Came → DialerState → DialerState → Type 0
DialsBy route Undialled old new = new.dials ≡ old.dials
DialsBy route NoName old new = DialsOnce route outcome.NoName old new
DialsBy route NotReached old new = DialsOnce route outcome.NotReached old new
DialsBy route (Over seen stream how) old new = DialsOnce route (outcome.Link seen) old new
DialsBy route (Through seen carried out back) old new = DialsOnce route (outcome.Link seen) old new

abbrev pub Dials : Task → Came → DialerState → DialerState → Type 0
Dials (Reply due) came old new = new ≡ old
Dials (Forward ask route m) came old new = DialsBy route came old new
Dials (Tunnel pages t) came old new = DialsBy t.route came old new

-- ---- what was read of the client

-- how a request's body stands in the client's bytes that came, and what is left behind it, by how the sending went
abbrev pub BodyStands : Message → List ℕ → List ℕ → Sent → Type 0
BodyStands m stream behind sent.Whole = (end_of_body m stream ≡ state.Whole) × (behind ≡ behind_body m stream)
BodyStands m stream behind sent.Cut = (end_of_body m stream ≡ state.Cut) × (behind ≡ behind_body m stream)
BodyStands m stream behind sent.Misframed = (end_of_body m stream ≡ state.Misframed) × (behind ≡ behind_body m stream)
BodyStands m stream behind sent.ReadFailed = (body_in m stream).state ≡ state.More
BodyStands m stream behind how = Unit {0}

-- the head that asks a parent for a tunnel, and the greeting behind it, stopped so
abbrev pub StopsOpening : Sent → Type 0
StopsOpening sent.LinkFailed = Unit {0}
StopsOpening sent.WriteFailed = Unit {0}
StopsOpening sent.NoMemory = Unit {0}
StopsOpening how = ⊥

-- all that a direction carries of those bytes, or, where it was cut short, first ones of them
abbrev pub CarriesSome : Bool → List ℕ → List ℕ → Type 0
CarriesSome true bytes carried = AddsSome DIRECTION_LIMIT bytes [] carried
CarriesSome false bytes carried = carried ≡ take DIRECTION_LIMIT bytes

-- what is read of the client by what came; failed is whether the client's sink failed in a tunnel, behind which the link was told the
-- end
abbrev pub ReadsOfClient : Bool → Task → Client → Came → Type 0
ReadsOfClient failed task c Undialled = c.behind ≡ c.stream
ReadsOfClient failed (Reply due) c came = ⊥
ReadsOfClient failed task c NoName = c.behind ≡ c.stream
ReadsOfClient failed task c NotReached = c.behind ≡ c.stream
ReadsOfClient failed (Forward ask route m) c (Over seen stream how) =
    IsStream (is_read_failed how) stream c.stream c.behind × BodyStands m stream c.behind how × (seen.write_failed ≡ is_link_failed how)
ReadsOfClient failed (Forward ask route m) c (Through seen carried out back) = ⊥
ReadsOfClient failed (Tunnel pages t) c (Over seen stream how) = (c.behind ≡ c.stream) × StopsOpening how × (seen.write_failed ≡ is_link_failed how)
ReadsOfClient failed (Tunnel pages t) c (Through seen carried out back) =
    (carried.client_write ≡ failed)
    × IsTrue seen.finished
    × CarriesSome (carried.no_memory || (carried.client_read || seen.write_failed)) c.stream out
    × CarriesSome (carried.no_memory || (seen.read_failed || failed)) seen.offered back

-- ---- an exchange

-- over that link
abbrev pub IsOver : Came → LinkSeen → Type 0
IsOver (Over s stream how) seen = s ≡ seen
IsOver (Through s carried out back) seen = s ≡ seen
IsOver came seen = ⊥

-- what was judged was done over a link, before it is hung up
pub record DoesOver (failed : Bool) (task : Task) (c : Client) (taken taken' : List ℕ) (t : Talked) (seen : LinkSeen) : Type 0 where
  pub came : Came
  pub over : IsOver came seen
  pub reads : ReadsOfClient failed task c came
  pub stands : Stands (task_page task) (exchange_row task came) came taken taken' t

-- What was judged was done: the client's stream, the dialer before and after, what the client's sink had taken before and after,
-- and what came of it, whole or as far as a fault of that sink or want of memory let it stand.
pub record Does (failed : Bool) (task : Task) (c : Client) (old new : DialerState) (taken taken' : List ℕ) (t : Talked) : Type 0 where
  pub came : Came
  pub dials : Dials task came old new
  pub reads : ReadsOfClient failed task c came
  pub stands : Stands (task_page task) (exchange_row task came) came taken taken' t

-- one exchange by what was judged
pub record Answers (config : Config) (j : Judgement) (c : Client) (old new : DialerState) (taken taken' : List ℕ) (x : Conclusion) : Type 0 where
  pub failed : Bool
  pub does : Does failed (task_of config j) c old new taken taken' (talked.Ended x)

-- that is so, where the sink failed exactly where that is told
pub record WhereFailed (old new : SinkState) (IsSo : Bool → Type 0) : Type 0 where
  pub failed : Bool
  pub cause : RoseWhere failed old.faults new.faults
  pub is_so : IsSo failed
