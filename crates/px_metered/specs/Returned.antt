-- What was returned of an exchange, by the bytes that the client's sink took of it.
use Rattle.std.specs.Prelude.{ℕ, ◌-◌, ◌^◌, ◌==◌, ◌&&◌, Bool, false, min, nat_eq, nat_le, nat_lt, List, [], ◌∷◌, length, take, drop, Option, Some, None, unwrap_or, if◌then◌else◌}
use Rattle.std.specs.List.{starts_with}
use Rattle.px_base.specs.Numbers.{decimal}
use Rattle.px_metered.specs.declared.responses.Tally.{Tally}

-- the end of a head's last line, and the empty line behind it (RFC 9112, section 2.1)
abbrev pub empty_line : List ℕ
empty_line = 13 ∷ 10 ∷ 13 ∷ 10 ∷ []

-- the bytes behind the first empty line, if it came
unfoldable pub behind_empty_line : List ℕ → Option (List ℕ)
behind_empty_line [] = None
behind_empty_line (b ∷ bytes) = if starts_with nat_eq (b ∷ bytes) empty_line then Some (drop 4 (b ∷ bytes)) else behind_empty_line bytes

-- the bytes before the first CR
unfoldable pub first_line : List ℕ → List ℕ
first_line [] = []
first_line (b ∷ bytes) = if b == 13 then [] else b ∷ first_line bytes

-- the status that a status line has at its places 9 to 11 (`HTTP/1.1 200 ..`: RFC 9112, section 4), if three digits stand there
unfoldable pub line_status : List ℕ → Option ℕ
line_status line = if nat_lt (length line) 12 then None else decimal 999 (take 3 (drop 9 line))

-- the status of a response, if that much of it came
abbrev pub status_in : List ℕ → Option ℕ
status_in bytes = line_status (first_line bytes)

-- whether a response of this status is interim (RFC 9110, section 15.2)
abbrev pub is_interim_status : Option ℕ → Bool
is_interim_status None = false
is_interim_status (Some status) = nat_le 100 status && nat_le status 199

-- what came of the final response: the bytes behind an interim one, of which there is one at most, or else all the bytes
unfoldable pub final_response : List ℕ → List ℕ
final_response bytes = if is_interim_status (status_in bytes) then unwrap_or (behind_empty_line bytes) bytes else bytes

-- how many bytes came behind a head, as far as a `u64` counts
abbrev pub body_count : Option (List ℕ) → ℕ
body_count None = 0
body_count (Some body) = min (length body) (2 ^ 64 - 1)

-- what was returned of an exchange, by what the client's sink took of it: the status of its final response, and how many bytes
-- came behind the head of that
unfoldable pub returned_of : List ℕ → Tally
returned_of bytes = record { status = status_in (final_response bytes); body = body_count (behind_empty_line (final_response bytes)) }
