-- One exchange between the ends of a session.
use Rattle.std.specs.Prelude.{◌≡◌, ◌⊎◌, ℕ, Bool, IsTrue, List, Option, None, Some}
use Rattle.px_base.specs.Dials.{DialerGoesOn, DialerState}
use Rattle.px_base.specs.Sinks.{SinkGoesOn, SinkState}
use Rattle.px_base.specs.Sources.{SourceGoesOn}
use Rattle.px_streams.specs.Feeds.{FeedState, bytes_behind}
use Rattle.px_ends.specs.Ends.{EndsState, EndsGoOn, Tell, client_stream}
use Rattle.px_config.specs.declared.configs.Config.{Config}
use Rattle.px_judging.specs.Judging.{judged}
use Rattle.px_judging.specs.declared.handed.Handed.{Handed}
use Rattle.px_judging.specs.declared.judgements.Judgement.{Judgement}
use Rattle.px_metered.specs.Measured.{IsMeasured}
use Rattle.px_metered.specs.declared.responses.Tally.{Tally}
use Rattle.px_notes.specs.Endings.{broken}
use Rattle.px_notes.specs.declared.endings.After.TheVariants as after
use Rattle.px_notes.specs.declared.endings.Conclusion.{Conclusion}
use Rattle.px_exchange.specs.Causes.{ClientReadCause, ClientStaysOpen, ClientWriteCause}
use Rattle.px_exchange.specs.Exchange.{Answers, Client}

-- memory was wanting before anything was dialled or returned
abbrev pub AnswersNothing : Client → DialerState → DialerState → List ℕ → List ℕ → Conclusion → Type 0
AnswersNothing c old new taken taken' x = (x ≡ broken after.NoMemory) × (new ≡ old) × (c.behind ≡ c.stream) × (taken' ≡ taken)

-- what is answered to what an exchange is handed, by a configuration and for a client; where memory was wanting before that, nothing
abbrev pub AnswersHanded : Config → List ℕ → Option Handed → Client → DialerState → DialerState → List ℕ → List ℕ → Conclusion → Type 0
AnswersHanded config peer None c old new taken taken' x = AnswersNothing c old new taken taken' x
AnswersHanded config peer (Some h) c old new taken taken' x = Answers config (judged config h peer) c old new taken taken' x ⊎ AnswersNothing c old new taken taken' x

-- what was judged was done between these ends: what is sent and returned, why, and what lasts
pub record Exchanges (config : Config) (j : Judgement) (client client' : FeedState) (out out' : SinkState) (dialer dialer' : DialerState) (x : Conclusion) : Type 0 where
  pub answers : IsTrue client.source.tells → IsTrue out.tells → IsTrue dialer.tells
      → Answers config j (record { stream = bytes_behind client; behind = bytes_behind client' }) dialer dialer' out.taken out'.taken x
  pub read_cause : ClientReadCause client.source client'.source x.after
  pub write_cause : ClientWriteCause out out' x
  pub still_open : ClientStaysOpen out out' x
  pub source_goes_on : SourceGoesOn client.source client'.source
  pub sink_goes_on : SinkGoesOn out out'
  pub dialer_goes_on : DialerGoesOn dialer dialer'

-- nothing was returned
abbrev pub none_returned : Tally
none_returned = record { status = None; body = 0 }

-- one exchange between these ends, of which the clock isn't used: what is sent and returned, why, and what lasts; what is returned is
-- measured or not
pub record AnswersBetween (config : Config) (h : Option Handed) (measured : Bool) (old new : EndsState) (x : Conclusion) (returned : Option Tally) : Type 0 where
  pub answers : Tell old → AnswersHanded config old.peer h (record { stream = client_stream old; behind = client_stream new }) old.dialer new.dialer old.client_out.taken new.client_out.taken x
  pub read_cause : ClientReadCause old.client.source new.client.source x.after
  pub write_cause : ClientWriteCause old.client_out new.client_out x
  pub still_open : ClientStaysOpen old.client_out new.client_out x
  pub returns : IsMeasured measured old.client_out.taken new.client_out returned
  pub clock_same : new.clock ≡ old.clock
  pub goes_on : EndsGoOn old new
