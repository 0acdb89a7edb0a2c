-- The first entry of ORIGIN. One of bytes is a function of the text: the digits before the first LF, and so many of the bytes behind it.
use Rattle.std.specs.Prelude.{ℕ, ◌+◌, ◌==◌, nat_le, if◌then◌else◌, Bool, List, length, take, drop, Option, Some, None}
use Rattle.std.specs.List.{position}
use Rattle.px_base.specs.Numbers.{decimal}
use Rattle.px_base.specs.declared.dials.Answer.{Answer}
use Rattle.px_commands.specs.Origins.{BeginsEntry}

abbrev pub is_line_feed : ℕ → Bool
is_line_feed b = b == 10

-- so many of the bytes, and those behind them, where there are so many
abbrev pub counted_front : List ℕ → Option ℕ → Option (List ℕ × List ℕ)
counted_front behind None = None
counted_front behind (Some n) = if nat_le n (length behind) then Some (take n behind, drop n behind) else None

-- the entry of a text whose first LF is at that place
abbrev pub entry_at : List ℕ → Option ℕ → Option (List ℕ × List ℕ)
entry_at text None = None
entry_at text (Some at) = if nat_le at 8 then counted_front (drop (at + 1) text) (decimal 99999999 (take at text)) else None

unfoldable pub first_counted_entry : List ℕ → Option (List ℕ × List ℕ)
first_counted_entry text = entry_at text (position is_line_feed text)

-- the first entry of a text, if it begins with one
abbrev pub EntryIs : List ℕ → Option (Answer × List ℕ) → Type 0
EntryIs text (Some e) = BeginsEntry text e.0 e.1
EntryIs text None = (a : Answer) (rest : List ℕ) → ¬ BeginsEntry text a rest
