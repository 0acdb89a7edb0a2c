-- What a meter knows of the bytes that it was fed with.
use Rattle.std.specs.Prelude.{◌≡◌, ℕ, ◌+◌, ◌-◌, ◌^◌, ◌<◌, ◌==◌, ◌&&◌, not, Bool, true, false, min, List, ◌++◌, length, take}
use Rattle.px_metered.specs.Returned.{behind_empty_line, body_count, empty_line, final_response, is_interim_status, status_in}
use Rattle.px_metered.specs.declared.meters.Meter.{Meter}

-- the meter is in the head of a response of which these bytes have come: what comes ends the head as it would end one of which
-- only so much of the empty line has come
pub record IsInHead (meter : Meter) (bytes : List ℕ) : Type 0 where
  pub ends : (more : List ℕ) → behind_empty_line (bytes ++ more) ≡ behind_empty_line (take meter.matched empty_line ++ more)
  pub front : take meter.place meter.front ≡ take 12 bytes
  pub none : meter.body ≡ 0

-- the meter is behind the head of a response of which these bytes have come: what comes counts as body alone
pub record IsInBody (meter : Meter) (bytes : List ℕ) : Type 0 where
  pub status : (more : List ℕ) → status_in (bytes ++ more) ≡ status_in (take meter.place meter.front)
  pub counted : (more : List ℕ) → body_count (behind_empty_line (bytes ++ more)) ≡ min (meter.body + length more) (2 ^ 64 - 1)

-- the final response is settled: what comes is added to it
abbrev pub IsFinalFrom : List ℕ → Type 0
IsFinalFrom came = (more : List ℕ) → final_response (came ++ more) ≡ final_response came ++ more

-- the meter was fed with these bytes
pub record Measures (meter : Meter) (came : List ℕ) : Type 0 where
  pub head : meter.matched < 4 → IsInHead meter (final_response came)
  pub body : meter.matched ≡ 4 → IsInBody meter (final_response came)
  pub first : meter.matched < 4 → meter.passed ≡ false → final_response came ≡ came
  pub later : meter.passed ≡ true → IsFinalFrom came
  pub final : meter.matched ≡ 4 → IsFinalFrom came

-- whether the meter is at the end of the head of an interim response that is passed over
abbrev pub ends_interim : Meter → Bool
ends_interim meter = (meter.matched == 4) && (not meter.passed && is_interim_status (status_in (take meter.place meter.front)))
