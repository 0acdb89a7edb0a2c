-- Which names are hosts.
use Rattle.std.specs.Prelude.{codes, ℕ, ◌==◌, ◌&&◌, ◌||◌, not, nat_lt, Bool, false, if◌then◌else◌, List, length, Option, Some, None}
use Rattle.std.specs.Char.{is_ascii_alphanumeric, is_ascii_digit}
use Rattle.std.specs.List.{list_all, list_any, slice_split}
use Rattle.std.specs.Str.{str_eq_ignore_ascii_case}
use Rattle.px_host_lists.specs.declared.TheConstants.{DOT, HOST_LENGTH, LABEL_LENGTH}

-- letters, digits, hyphens and underscores
abbrev pub is_label_byte : ℕ → Bool
is_label_byte b = (is_ascii_alphanumeric b || b == 45) || b == 95

abbrev pub is_host_label : List ℕ → Bool
is_host_label label = if length label == 0 || nat_lt LABEL_LENGTH (length label) then false else list_all is_label_byte label

abbrev pub is_numeric_byte : ℕ → Bool
is_numeric_byte b = is_ascii_digit b || b == DOT

-- an address of version 4, or a part of one
abbrev pub is_numeric : List ℕ → Bool
is_numeric text = list_all is_numeric_byte text

-- labels with a dot between them at least once, and not digits and dots alone
unfoldable pub is_host : List ℕ → Bool
is_host text =
    if nat_lt HOST_LENGTH (length text) then false
    else if is_numeric text then false
    else list_any (λ b. b == DOT) text && list_all is_host_label (slice_split (λ b. b == DOT) text)

-- the name with a dot that hosts files have for the machine itself
abbrev pub is_local : List ℕ → Bool
is_local name = str_eq_ignore_ascii_case name (codes "localhost.localdomain")

unfoldable pub host_named : List ℕ → Option (List ℕ)
host_named name = if is_host name && not (is_local name) then Some name else None
