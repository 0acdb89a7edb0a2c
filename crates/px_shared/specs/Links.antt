-- Links over which an origin answered by itself, and the dials whose sources offer just what was heard.
use Rattle.std.specs.Prelude.{◌≡◌, ◌≢◌, ◌⊎◌, false, List, [], ◌∷◌, ◌++◌, length, drop}
use Rattle.std.specs.List.{AllByRecursion}
use Rattle.px_base.specs.Dials.{DialerState}
use Rattle.px_base.specs.declared.dials.Dial.{Dial}
use Rattle.px_base.specs.declared.dials.DialOutcome.{DialOutcome}
use Rattle.px_base.specs.declared.dials.DialOutcome.TheVariants as outcome
use Rattle.px_base.specs.declared.dials.LinkSeen.{LinkSeen}
use Rattle.px_pool_ends.specs.Answers.{IsAnswer}
use Rattle.px_notes.specs.declared.endings.Ending.TheVariants as ending
use Rattle.px_serve.specs.Histories.{Begun}

-- what was heard over a link is the front of what its source offered
abbrev pub IsSeenFront : LinkSeen → Type 0
IsSeenFront seen = seen.offered ≡ seen.heard ++ drop (length seen.heard) seen.offered

-- so it is of a dial whose link was hung up
abbrev pub HeardFront : DialOutcome → Type 0
HeardFront outcome.NoName = Unit {0}
HeardFront outcome.NotReached = Unit {0}
HeardFront (outcome.Open mark offered) = Unit {0}
HeardFront (outcome.Link seen) = IsSeenFront seen

-- so it is of each link of these dials
abbrev pub EachHeardFront : List Dial → Type 0
EachHeardFront ds = AllByRecursion (λ d. HeardFront d.outcome) ds

-- what was heard over a link is one whole answer, or all that was offered
abbrev pub IsOneAnswer : LinkSeen → Type 0
IsOneAnswer seen = IsAnswer 8 seen.heard ⊎ (seen.offered ≡ seen.heard)

-- so it is of a dial whose link was hung up
abbrev pub HeardOne : DialOutcome → Type 0
HeardOne outcome.NoName = Unit {0}
HeardOne outcome.NotReached = Unit {0}
HeardOne (outcome.Open mark offered) = Unit {0}
HeardOne (outcome.Link seen) = IsOneAnswer seen

-- over each link of these dials the origin answered one request by itself
abbrev pub EachAnswered : List Dial → Type 0
EachAnswered ds = AllByRecursion (λ d. HeardOne d.outcome) ds

-- a link whose source offers just what was heard over it
abbrev pub offers_heard : DialOutcome → DialOutcome
offers_heard outcome.NoName = outcome.NoName
offers_heard outcome.NotReached = outcome.NotReached
offers_heard (outcome.Open mark offered) = outcome.Open mark offered
offers_heard (outcome.Link seen) = outcome.Link (record { offered = seen.heard; heard = seen.heard; sent = seen.sent; read_failed = seen.read_failed; write_failed = seen.write_failed; finished = seen.finished })

-- the dials, each offering just what was heard
abbrev pub offering_heard : List Dial → List Dial
offering_heard [] = []
offering_heard (d ∷ ds) = record { host = d.host; port = d.port; outcome = offers_heard d.outcome } ∷ offering_heard ds

-- the dialer with these dials, which doesn't tell what the next ones give
abbrev pub with_heard : DialerState → DialerState
with_heard d = record {
  tells = d.tells;
  dials = offering_heard d.dials;
  tells_coming = false;
  coming = [];
  through_servers = false;
  names = d.names;
  reach = d.reach;
  link_reads = d.link_reads;
  link_writes = d.link_writes;
  opened = d.opened;
  hung_up = d.hung_up;
  mark = d.mark;
}

-- no exchange carried a tunnel
abbrev pub NoTunnel : List Begun → Type 0
NoTunnel begun = AllByRecursion (λ b. b.concluded.ending ≢ ending.Tunnel) begun
