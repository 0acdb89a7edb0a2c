-- Decimal numbers.
use Rattle.std.specs.Prelude.{ℕ, ◌+◌, ◌-◌, ◌*◌, ◌==◌, ◌&&◌, Bool, true, not, nat_le, if◌then◌else◌, List, [], ◌∷◌, length, Option, Some, None}

-- the bytes of '0' to '9'
abbrev pub is_digit : ℕ → Bool
is_digit b = nat_le 48 b && nat_le b 57

abbrev pub all_digits : List ℕ → Bool
all_digits [] = true
all_digits (b ∷ bs) = is_digit b && all_digits bs

-- the number that goes on from n with these digits
abbrev pub with_digits : ℕ → List ℕ → ℕ
with_digits n [] = n
with_digits n (b ∷ bs) = with_digits (10 * n + (b - 48)) bs

-- one or more digits, as a number that is at most that large
unfoldable pub decimal : ℕ → List ℕ → Option ℕ
decimal most bs = if not (length bs == 0) && (all_digits bs && nat_le (with_digits 0 bs) most) then Some (with_digits 0 bs) else None
