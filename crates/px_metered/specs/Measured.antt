-- What a call knows of a sink that was measured.
use Rattle.std.specs.Prelude.{◌≡◌, ℕ, Bool, false, IsTrue, List, ◌++◌, length, drop, Option, Some, None, IsSome}
use Rattle.px_base.specs.Sinks.{SinkState}
use Rattle.px_metered.specs.Measuring.{Measures}
use Rattle.px_metered.specs.Returned.{returned_of}
use Rattle.px_metered.specs.declared.meters.Meter.{Meter}
use Rattle.px_metered.specs.declared.responses.Tally.{Tally}

-- the meter was fed with what the sink took behind the bytes before
pub record MeasuresSink (before : List ℕ) (state : SinkState) (meter : Meter) : Type 0 where
  pub behind : state.taken ≡ before ++ drop (length before) state.taken
  pub measures : Measures meter (drop (length before) state.taken)

-- what was returned is told where it was measured, by what the sink took behind the bytes before
pub record IsMeasured (on : Bool) (before : List ℕ) (state : SinkState) (returned : Option Tally) : Type 0 where
  pub off : on ≡ false → returned ≡ None
  pub some : IsTrue on → IsSome returned
  pub told : IsTrue on → IsTrue state.tells → returned ≡ Some (returned_of (drop (length before) state.taken))
