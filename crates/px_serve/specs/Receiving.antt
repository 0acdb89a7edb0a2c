-- One taking.
use Rattle.std.specs.Prelude.{◌≡◌, ℕ, ◌+◌, ◌≤◌, if◌then◌else◌, Option, None, Some}
use Rattle.px_config.specs.Insides.{Asked, InsideState, Law}
use Rattle.px_config.specs.declared.insides.Taking.{Taking}
use Rattle.px_serve.specs.Takings.{Suits, may_change}
use Rattle.px_serve.specs.declared.receiving.Received.{Received}

-- the place where a taking was taken
abbrev pub IsPlaceNow : ℕ → ℕ → Option Taking → Type 0
IsPlaceNow old new None = new ≡ old
IsPlaceNow old new (Some t) = t.place ≡ new

-- what was taken where that is asked for
pub record TakesFor (law : Law) (old new : InsideState) (asked : Option Asked) (taken : Option Taking) : Type 0 where
  pub lawful : Suits law asked taken
  pub fits : Suits new.fits asked taken
  pub place : IsPlaceNow old.place new.place taken

-- one change at most, and none for a request that can't make one
abbrev pub ChangesFor : ℕ → ℕ → Option Received → Type 0
ChangesFor old new received = new ≤ old + (if may_change received then 1 else 0)
