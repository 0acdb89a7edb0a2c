-- Lists of hosts: which line of a list names a host, or a host above it.
use Rattle.std.specs.Prelude.{◌≡◌, ℕ, ◌-◌, ◌==◌, ◌||◌, Bool, false, if◌then◌else◌, List, [], ◌∷◌, length, take, slice_index, Option, None, Some, is_some}
use Rattle.std.specs.Option.{option_or}
use Rattle.std.specs.Str.{str_eq_ignore_ascii_case}
use Rattle.px_host_lists.specs.declared.TheConstants.{DOT}

-- a host of a list, and the number of its line
pub record HostEntry : Type 0 where
  pub line : ℕ
  pub host : List ℕ

-- the first line that names exactly this host, without case
unfoldable pub line_of : List HostEntry → List ℕ → Option ℕ
line_of [] host = None
line_of (entry ∷ entries) host = if str_eq_ignore_ascii_case entry.host host then Some entry.line else line_of entries host

-- the first line that names what stands behind a dot of the host, the longest first
unfoldable pub line_above : List HostEntry → List ℕ → Option ℕ
line_above entries [] = None
line_above entries (b ∷ bytes) = if b == DOT then option_or (line_of entries bytes) (line_above entries bytes) else line_above entries bytes

-- the line that names the host or, of those above it, the longest
unfoldable pub first_listed : List HostEntry → List ℕ → Option ℕ
first_listed entries host = option_or (line_of entries host) (line_above entries host)

-- a host without one dot at its end
abbrev pub without_end_dot : List ℕ → List ℕ
without_end_dot host = if slice_index host (length host - 1) == DOT then take (length host - 1) host else host

-- what is found for a host, which may have a dot at its end
unfoldable pub listed_line : List HostEntry → List ℕ → Option ℕ
listed_line entries host = first_listed entries (without_end_dot host)

abbrev pub is_listed : List HostEntry → List ℕ → Bool
is_listed entries host = is_some (listed_line entries host)

-- whether a name is what stands behind a dot of a host, without case
abbrev pub is_named_above : List ℕ → List ℕ → Bool
is_named_above name [] = false
is_named_above name (b ∷ bytes) = if b == DOT then str_eq_ignore_ascii_case name bytes || is_named_above name bytes else is_named_above name bytes

-- whether a name stands for a host: it is the host, or what stands behind one of its dots
abbrev pub is_named_by : List ℕ → List ℕ → Bool
is_named_by name host = str_eq_ignore_ascii_case name host || is_named_above name host

-- what stands behind the first dot, if there is one
unfoldable pub behind_dot : List ℕ → Option (List ℕ)
behind_dot [] = None
behind_dot (b ∷ bytes) = if b == DOT then Some bytes else behind_dot bytes

-- two lists name the same hosts by the same lines
abbrev pub SameLines : List HostEntry → List HostEntry → Type 0
SameLines one other = (host : List ℕ) → first_listed one host ≡ first_listed other host
