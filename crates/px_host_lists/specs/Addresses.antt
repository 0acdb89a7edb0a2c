-- Addresses as they stand at the front of the lines of hosts files.
use Rattle.std.specs.Prelude.{ℕ, ◌==◌, ◌&&◌, ◌||◌, nat_lt, if◌then◌else◌, Bool, false, List, count_by, is_some}
use Rattle.std.specs.Char.{is_ascii_hexdigit}
use Rattle.std.specs.List.{list_all, slice_split}
use Rattle.px_base.specs.Numbers.{decimal}
use Rattle.px_host_lists.specs.declared.TheConstants.{COLON, DOT}

-- a decimal number of at most 255
abbrev pub is_octet : List ℕ → Bool
is_octet text = is_some (decimal 255 text)

-- an address of version 4: four numbers with dots between them
abbrev pub is_dotted : List ℕ → Bool
is_dotted word = (count_by (λ b. b == DOT) word == 3) && list_all is_octet (slice_split (λ b. b == DOT) word)

abbrev pub is_colon_hex_byte : ℕ → Bool
is_colon_hex_byte b = (is_ascii_hexdigit b || b == COLON) || b == DOT

-- an address of version 6: hexadecimal digits, colons and dots, with two colons at least
abbrev pub is_colon_hex : List ℕ → Bool
is_colon_hex word = if nat_lt (count_by (λ b. b == COLON) word) 2 then false else list_all is_colon_hex_byte word

unfoldable pub is_ip_address : List ℕ → Bool
is_ip_address word = is_dotted word || is_colon_hex word
