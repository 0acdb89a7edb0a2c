-- The numbers that the job is made from.
use Rattle.std.specs.Prelude.{ℕ, ◌+◌, ◌*◌, ◌/◌, ◌%◌, zero, suc}

-- the number behind x
abbrev pub next_number : ℕ → ℕ
next_number x = (1103515245 * x + 12345) % 2147483648

-- the number that the last of so many draws from x on makes
unfoldable pub after_draws : ℕ → ℕ → ℕ
after_draws zero x = x
after_draws (suc n) x = next_number (after_draws n x)

-- what a draw below a limit gives where it makes x
abbrev pub drawn : ℕ → ℕ → ℕ
drawn limit x = (x / 65536) % limit

-- three draws from x on: what the first, second and third give below a limit
abbrev pub first_draw : ℕ → ℕ → ℕ
first_draw limit x = drawn limit (next_number x)

abbrev pub second_draw : ℕ → ℕ → ℕ
second_draw limit x = drawn limit (next_number (next_number x))

abbrev pub third_draw : ℕ → ℕ → ℕ
third_draw limit x = drawn limit (next_number (next_number (next_number x)))
