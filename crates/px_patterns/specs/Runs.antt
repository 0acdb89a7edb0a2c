-- The items between two `*`, each of which takes one byte.
use Rattle.std.specs.Prelude.{ℕ, ◌&&◌, Bool, true, false, if◌then◌else◌, List, [], ◌∷◌, length, drop, Option, None, Some}
use Rattle.std.specs.List.{list_any}
use Rattle.px_patterns.specs.declared.labels.LabelItem.{LabelItem}
use Rattle.px_patterns.specs.declared.labels.LabelItem.TheVariants.{AnyByte, AnyRun, Byte, Class}
use Rattle.px_patterns.specs.Globs.{takes}

abbrev pub is_run : LabelItem → Bool
is_run AnyRun = true
is_run AnyByte = false
is_run (Byte b) = false
is_run (Class ranges) = false

abbrev pub has_run : List LabelItem → Bool
has_run items = list_any is_run items

-- a `*` and the items behind it, if there is one
abbrev pub behind_run : Option (List LabelItem) → List LabelItem
behind_run None = []
behind_run (Some items) = AnyRun ∷ items

-- whether each of the items takes one byte at the front of the bytes
unfoldable pub takes_front : List LabelItem → List ℕ → Bool
takes_front [] bytes = true
takes_front (item ∷ items) [] = false
takes_front (item ∷ items) (b ∷ bytes) = takes item b && takes_front items bytes

-- what is behind the first place where each of the items takes one byte
unfoldable pub behind_first_place : List LabelItem → List ℕ → Option (List ℕ)
behind_first_place items [] = if takes_front items [] then Some (drop (length items) []) else None
behind_first_place items (b ∷ bytes) = if takes_front items (b ∷ bytes) then Some (drop (length items) (b ∷ bytes)) else behind_first_place items bytes
