-- Where connections are taken: the value of `listen-address`.
use Rattle.std.specs.Prelude.{ℕ, ◌+◌, ◌==◌, ◌&&◌, ◌||◌, Bool, false, List, [], ◌∷◌, take, drop, position, is_some, Option, Some, None, Result, Ok, Err, codes, if◌then◌else◌}
use Rattle.std.specs.List.{slice_split}
use Rattle.std.specs.Str.{byte, bytes_eq}
use Rattle.px_base.specs.Numbers.{decimal}
use Rattle.px_base.specs.Ports.{port}

-- a host, without brackets, and a port
pub record AddressSeen : Type 0 where
  pub host : List ℕ
  pub port_number : ℕ

abbrev pub is_dot : ℕ → Bool
is_dot b = b == 46

abbrev pub begins_port : ℕ → Bool
begins_port b = b == 58

abbrev pub ends_address : ℕ → Bool
ends_address b = b == 93

-- a number to 255
abbrev pub is_small : List ℕ → Bool
is_small text = is_some (decimal 255 text)

abbrev pub are_small : List ℕ → List ℕ → List ℕ → Bool
are_small a b c = is_small a && is_small b && is_small c

-- 127 and three numbers to 255
abbrev pub are_numbers : List (List ℕ) → Bool
are_numbers (first ∷ a ∷ b ∷ c ∷ []) = bytes_eq first (codes "127") && are_small a b c
are_numbers other = false

-- a host that stands without brackets and is this machine's own
abbrev pub is_local_name : List ℕ → Bool
is_local_name host = bytes_eq host (codes "localhost") || are_numbers (slice_split is_dot host)

-- a host that stands in brackets and is this machine's own
abbrev pub is_local_address : List ℕ → Bool
is_local_address host = bytes_eq host (codes "::1")

-- the port of what stands behind a host: a colon and a port, or nothing
abbrev pub address_port : List ℕ → Option ℕ
address_port [] = Some 8118
address_port (b ∷ rest) = if begins_port b then port rest else None

-- a value of another form is refused before a host that isn't this machine's own
abbrev pub address_with_port : List ℕ → Bool → Option ℕ → Result AddressSeen ℕ
address_with_port host is_local None = Err 29
address_with_port host is_local (Some number) = if is_local then Ok (record { host = host; port_number = number }) else Err 30

-- the address of what stands behind an opening bracket, by the place of the closing one
abbrev pub bracketed_at : List ℕ → Option ℕ → Result AddressSeen ℕ
bracketed_at text None = Err 29
bracketed_at text (Some at) = address_with_port (take at text) (is_local_address (take at text)) (address_port (drop (at + 1) text))

abbrev pub bracketed_address : List ℕ → Result AddressSeen ℕ
bracketed_address text = bracketed_at text (position ends_address text)

-- the address of a host that goes to the first colon, by its place
abbrev pub named_at : List ℕ → Option ℕ → Result AddressSeen ℕ
named_at text None = address_with_port text (is_local_name text) (Some 8118)
named_at text (Some at) = address_with_port (take at text) (is_local_name (take at text)) (address_port (drop at text))

abbrev pub address_by_name : List ℕ → Result AddressSeen ℕ
address_by_name text = named_at text (position begins_port text)

-- the address for which a value stands, or the number of its refusal
unfoldable pub address_of : List ℕ → Result AddressSeen ℕ
address_of [] = address_by_name []
address_of (b ∷ rest) = if b == 91 then bracketed_address rest else address_by_name (b ∷ rest)
