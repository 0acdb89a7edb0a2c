-- Where the aliases of a block are found by their names.
use Rattle.std.specs.Prelude.{◌≡◌, ℕ, ◌<◌, Bool, List, length, slice_index_or, Option, Some, None}
use Rattle.std.specs.BTreeMap.{BTreeMap, get_by}
use Rattle.std.specs.Cmp.Lexicographic.{slice_cmp}
use Rattle.std.specs.Global.{Vec}
use Rattle.std.specs.List.{find}
use Rattle.std.specs.Ordering.{nat_cmp}
use Rattle.std.specs.Str.{bytes_eq, str_to_ascii_lowercase}
use Rattle.px_action_files.specs.declared.aliases.Alias.{Alias}

-- the alias's name in small letters is the key
abbrev pub alias_has_key : List ℕ → Alias → Bool
alias_has_key key a = bytes_eq (str_to_ascii_lowercase a.name) key

-- a place is that of the first alias with the key, and no place means that there is none
abbrev pub IsPlace : List Alias → List ℕ → Option ℕ → Type 0
IsPlace list key None = find (alias_has_key key) list ≡ None
IsPlace list key (Some at) = (at < length list) × ((d : Alias) → find (alias_has_key key) list ≡ Some (slice_index_or list at d))

-- the map has the place of each alias, by its name in small letters
abbrev pub IsIndex : BTreeMap (Vec ℕ) ℕ → List Alias → Type 0
IsIndex places list = (key : List ℕ) → IsPlace list key (get_by (λ k. slice_cmp nat_cmp key k.items) places)
