-- Dialling: the one dial of a request that is sent on.
use Rattle.std.specs.Prelude.{◌≡◌, false, true, IsTrue, [], ◌∷◌, ◌++◌}
use Rattle.px_base.specs.Causes.{Rose}
use Rattle.px_base.specs.Dials.{DialerState, DialerGoesOn, Met, offers, nameless, unreached, untold, met, coming_behind}
use Rattle.px_base.specs.declared.dials.DialOutcome.{DialOutcome}
use Rattle.px_base.specs.declared.dials.DialOutcome.TheVariants as outcome
use Rattle.px_decide.specs.declared.routes.Route.{Route}

-- what came of a dial is what was to come of it; an end that fails no more hasn't failed
abbrev pub DialComes : Met → DialOutcome → Type 0
DialComes (offers bytes reads writes) (outcome.Link seen) = (seen.offered ≡ bytes) × (IsTrue reads → seen.read_failed ≡ false) × (IsTrue writes → seen.write_failed ≡ false)
DialComes nameless outcome.NoName = Unit {0}
DialComes unreached outcome.NotReached = Unit {0}
DialComes untold o = Unit {0}
DialComes m o = ⊥

-- each fault of a dial and of its link raised its own count
abbrev pub OutcomeCause : DialerState → DialerState → DialOutcome → Type 0
OutcomeCause old new outcome.NoName = Rose old.names new.names
OutcomeCause old new outcome.NotReached = Rose old.reach new.reach
OutcomeCause old new (outcome.Open mark offered) = ⊥
OutcomeCause old new (outcome.Link seen) =
    (seen.read_failed ≡ true → Rose old.link_reads new.link_reads) × (seen.write_failed ≡ true → Rose old.link_writes new.link_writes)

-- one dial was added by that route, and came to that
pub record DialsOnce (route : Route) (o : DialOutcome) (old new : DialerState) : Type 0 where
  pub added : new.dials ≡ old.dials ++ record { host = route.host; port = route.port; outcome = o } ∷ []
  pub comes : IsTrue old.tells_coming → DialComes (met old route.host) o
  pub coming_left : IsTrue old.tells_coming → new.coming ≡ coming_behind old route.host
  pub goes_on : DialerGoesOn old new
  pub cause : OutcomeCause old new o
