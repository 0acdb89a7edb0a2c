-- Port lists: items between commas, each a port or a range of ports (the manual's chapter on actions files, limit-connect).
use Rattle.std.specs.Prelude.{ℕ, ◌+◌, ◌==◌, ◌&&◌, Bool, nat_le, if◌then◌else◌, List, [], ◌∷◌, Option, Some, None, length, take, drop, option_map, option_and_then}
use Rattle.std.specs.List.{slice_split, position, list_any}
use Rattle.px_base.specs.Blanks.{trimmed}
use Rattle.px_base.specs.Numbers.{decimal}
use Rattle.px_base.specs.declared.ports.PortRange.{PortRange}

-- a port: a number from 1 to 65,535
unfoldable pub port : List ℕ → Option ℕ
port bs = option_and_then (λ n. if n == 0 then None else Some n) (decimal 65535 bs)

-- an end of a range: a port, or that one where nothing is written
abbrev pub end_of_range : ℕ → List ℕ → Option ℕ
end_of_range open_end bs = if length bs == 0 then Some open_end else port bs

-- the range of two ports, unless the first is above the last
abbrev pub range : Option ℕ → Option ℕ → Option PortRange
range (Some low) (Some high) = if nat_le low high then Some (record { low = low; high = high }) else None
range (Some low) None = None
range None high = None

abbrev pub is_dash : ℕ → Bool
is_dash b = b == 45

-- an item by the place of its first dash, if it has one
abbrev pub item_at : List ℕ → Option ℕ → Option PortRange
item_at bs None = range (port bs) (port bs)
item_at bs (Some at) = range (end_of_range 1 (take at bs)) (end_of_range 65535 (drop (at + 1) bs))

-- an item with no white space around it: `n`, `n-m`, `-m`, `n-` or `-`
unfoldable pub item : List ℕ → Option PortRange
item bs = item_at bs (position is_dash bs)

-- an item's ranges before those of the rest; an empty item allows nothing
abbrev pub with_port_item : List ℕ → Option (List PortRange) → Option (List PortRange)
with_port_item bs rest = if length bs == 0 then rest else option_and_then (λ r. option_map (λ rs. r ∷ rs) rest) (item bs)

-- the ranges of items, where each has that form
abbrev pub port_ranges : List (List ℕ) → Option (List PortRange)
port_ranges [] = Some []
port_ranges (i ∷ items) = with_port_item (trimmed i) (port_ranges items)

-- what a text stands for as a port list, if it is one; 44 is the comma
unfoldable pub port_list : List ℕ → Option (List PortRange)
port_list text = port_ranges (slice_split (λ b. b == 44) text)

-- the port is in one of the ranges
abbrev pub allows : List PortRange → ℕ → Bool
allows ranges p = list_any (λ (r : PortRange). nat_le r.low p && nat_le p r.high) ranges
