-- Where requests are sent: the second word of a forward line (the manual's chapter on the main configuration file, forwarding).
use Rattle.std.specs.Prelude.{ℕ, ◌==◌, ◌&&◌, ◌||◌, Bool, not, nat_lt, if◌then◌else◌, List, [], ◌∷◌, length, drop, Option, Some, None, codes, option_map}
use Rattle.std.specs.Char.{is_ascii_alphanumeric, is_ascii_hexdigit}
use Rattle.std.specs.List.{position_or_len, before_first, after_first, list_all}
use Rattle.std.specs.Str.{byte, bytes_eq}
use Rattle.px_base.specs.Ports.{port}
use Rattle.px_actions.specs.declared.hops.Hop.{Hop}
use Rattle.px_actions.specs.declared.hops.Hop.TheVariants as seen

-- the next hop of a request: the origin itself, or a host and a port
pub data NextHop : Type 0 where
  direct : NextHop
  parent : List ℕ → ℕ → NextHop

-- a byte of a host: a letter, a digit, a dot, a hyphen or an underscore
unfoldable pub is_host_byte : ℕ → Bool
is_host_byte b = is_ascii_alphanumeric b || (b == byte "." || (b == byte "-" || b == byte "_"))

-- a byte of an address in brackets: a hexadecimal digit, a colon or a dot
unfoldable pub is_hop_address_byte : ℕ → Bool
is_hop_address_byte b = is_ascii_hexdigit b || (b == byte ":" || b == byte ".")

-- one or more such bytes
abbrev pub is_made_of : (ℕ → Bool) → List ℕ → Bool
is_made_of is_byte text = not (length text == 0) && list_all is_byte text

-- the port of what stands behind a host: a colon and a port, or nothing
abbrev pub hop_port : List ℕ → Option ℕ
hop_port [] = Some 8000
hop_port (b ∷ rest) = if b == byte ":" then port rest else None

-- a host of such bytes, and what stands behind it
abbrev pub parent_hop : (ℕ → Bool) → List ℕ → List ℕ → Option NextHop
parent_hop is_byte host behind = if is_made_of is_byte host then option_map (λ p. parent host p) (hop_port behind) else None

abbrev pub is_closing_bracket : ℕ → Bool
is_closing_bracket b = b == byte "]"

abbrev pub is_colon : ℕ → Bool
is_colon b = b == byte ":"

-- what stands behind an opening bracket: an address, the closing bracket, and the port
abbrev pub bracketed_hop : List ℕ → Option NextHop
bracketed_hop text = if nat_lt (position_or_len is_closing_bracket text) (length text)
    then parent_hop is_hop_address_byte (before_first is_closing_bracket text) (after_first is_closing_bracket text) else None

abbrev pub hop_by_name : List ℕ → Option NextHop
hop_by_name text = parent_hop is_host_byte (before_first is_colon text) (drop (position_or_len is_colon text) text)

abbrev pub host_and_port : List ℕ → Option NextHop
host_and_port [] = None
host_and_port (b ∷ rest) = if b == byte "[" then bracketed_hop rest else hop_by_name (b ∷ rest)

-- a dot stands for the origin itself
unfoldable pub next_hop : List ℕ → Option NextHop
next_hop text = if bytes_eq text (codes ".") then Some direct else host_and_port text

-- a value of the program as a next hop
abbrev pub seen_hop : Hop → NextHop
seen_hop seen.Direct = direct
seen_hop (seen.Parent host p) = parent host.now p
