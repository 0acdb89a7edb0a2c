-- What a list's file stands for: its hosts with their lines, notes on what else stands there, or a refusal.
use Rattle.std.specs.Prelude.{◌≡◌, ℕ, ◌+◌, ◌==◌, Bool, if◌then◌else◌, nat_lt, List, [], ◌∷◌, ◌++◌, length, map, take, count_by, slice_get, Option, Some, None, is_none, option_map}
use Rattle.std.specs.List.{list_any}
use Rattle.px_host_lists.specs.Addresses.{is_ip_address}
use Rattle.px_host_lists.specs.Hosts.{HostEntry}
use Rattle.px_host_lists.specs.Names.{host_named}
use Rattle.px_host_lists.specs.Rules.{rule_host}
use Rattle.px_host_lists.specs.Words.{list_lines, used_words}
use Rattle.px_host_lists.specs.declared.TheConstants.{BYTE_LIMIT, HOST_LIMIT, LINE_FEED}
use Rattle.px_host_lists.specs.declared.faults.ListFault.{ListFault}
use Rattle.px_host_lists.specs.declared.faults.ListFault.TheVariants as fault
use Rattle.px_host_lists.specs.declared.readings.ListNotes.{ListNotes}

-- ---- what stands on a line: each host, and `None` in the place of what is none

-- a word alone stands for a host; several words are nothing that a list knows
abbrev pub rule_item : List ℕ → List (List ℕ) → Option (List ℕ)
rule_item word [] = rule_host word
rule_item word (other ∷ more) = None

-- all names behind an address; without one the address names nothing
abbrev pub items_behind : List (List ℕ) → List (Option (List ℕ))
items_behind [] = None ∷ []
items_behind (name ∷ names) = map host_named (name ∷ names)

abbrev pub items_in_words : List (List ℕ) → List (Option (List ℕ))
items_in_words [] = []
items_in_words (word ∷ more) = if is_ip_address word then items_behind more else rule_item word more ∷ []

unfoldable pub items_on : List ℕ → List (Option (List ℕ))
items_on line = items_in_words (used_words line)

-- ---- the hosts of a file

-- the hosts of items, with the number of their line
abbrev pub entries_on : ℕ → List (Option (List ℕ)) → List HostEntry
entries_on number [] = []
entries_on number (Some host ∷ items) = record { line = number; host = host } ∷ entries_on number items
entries_on number (None ∷ items) = entries_on number items

-- the hosts of lines, the first of which has this number
unfoldable pub entries_from : ℕ → List (List ℕ) → List HostEntry
entries_from number [] = []
entries_from number (line ∷ lines) = entries_on number (items_on line) ++ entries_from (number + 1) lines

-- the hosts of a file in the order in which they stand there
unfoldable pub list_entries : List ℕ → List HostEntry
list_entries bytes = entries_from 1 (list_lines bytes)

-- ---- the lines on which something stands that is no host

abbrev pub has_other : List (Option (List ℕ)) → Bool
has_other items = list_any is_none items

-- the numbers of such lines, the first of all lines having this number
unfoldable pub passed_from : ℕ → List (List ℕ) → List ℕ
passed_from number [] = []
passed_from number (line ∷ lines) = if has_other (items_on line) then number ∷ passed_from (number + 1) lines else passed_from (number + 1) lines

unfoldable pub passed_lines : List ℕ → List ℕ
passed_lines bytes = passed_from 1 (list_lines bytes)

-- how many hosts and how many such lines a file has, and the first of these
unfoldable pub list_notes : List ℕ → ListNotes
list_notes bytes = record { taken = length (list_entries bytes); passed = length (passed_lines bytes); first_passed = slice_get (passed_lines bytes) 0 }

-- ---- refusals

-- the number of the line in which the byte at this place stands
unfoldable pub line_of_byte : ℕ → List ℕ → ℕ
line_of_byte place bytes = count_by (λ b. b == LINE_FEED) (take place bytes) + 1

-- the line of the first host beyond the limit
unfoldable pub host_refusal : List HostEntry → Option ListFault
host_refusal entries = option_map (λ entry. fault.TooMany entry.line) (slice_get entries HOST_LIMIT)

-- for what a file is refused, if for anything: its first byte beyond the limit, or else its first host beyond the limit
unfoldable pub list_refusal : List ℕ → Option ListFault
list_refusal bytes = if nat_lt BYTE_LIMIT (length bytes) then Some (fault.TooLong (line_of_byte BYTE_LIMIT bytes)) else host_refusal (list_entries bytes)

-- a fault is that refusal, or want of memory
abbrev pub IsListRefusal : Option ListFault → ListFault → Type 0
IsListRefusal said fault.Mem = Unit {0}
IsListRefusal said (fault.TooLong line) = said ≡ Some (fault.TooLong line)
IsListRefusal said (fault.TooMany line) = said ≡ Some (fault.TooMany line)
