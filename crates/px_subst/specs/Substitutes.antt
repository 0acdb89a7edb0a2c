-- What a substitute stands for, and what it writes at a match.
use Rattle.std.specs.Prelude.{ℕ, ◌-◌, Bool, ◌&&◌, ◌==◌, nat_le, List, [], ◌∷◌, map, flat_map, Option, Some, None, if◌then◌else◌}
use Rattle.std.specs.Option.{option_map_or}
use Rattle.std.specs.Str.{byte}
use Rattle.regex_hir.specs.Find.{Match}
use Rattle.regex.specs.Replace.{group_bytes}
use Rattle.px_subst.specs.Fields.{backslash}
use Rattle.px_subst.specs.declared.items.SubstituteItem.{SubstituteItem}
use Rattle.px_subst.specs.declared.items.SubstituteItem.TheVariants.{Byte, Group}

abbrev pub is_group_digit : ℕ → Bool
is_group_digit b = nat_le 49 b && nat_le b 57

-- the byte that a backslash before b stands for: a control character, or b itself
abbrev pub backslashed_byte : ℕ → ℕ
backslashed_byte b =
    if b == byte "n" then 10 else if b == byte "r" then 13 else if b == byte "t" then 9 else if b == byte "f" then 12 else b

-- the item that two bytes stand for together, if they do
abbrev pub pair_item : ℕ → ℕ → Option SubstituteItem
pair_item b c =
    if b == byte "$" then (if is_group_digit c then Some (Group (c - 48)) else if c == byte "&" then Some (Group 0) else None)
    else if b == backslash then Some (if is_group_digit c then Group (c - 48) else Byte (backslashed_byte c))
    else None

-- the items of a substitute; group 0 is the match
abbrev pub substitute_items : List ℕ → List SubstituteItem
substitute_items [] = []
substitute_items (b ∷ []) = Byte b ∷ []
substitute_items (b ∷ c ∷ bs) = option_map_or (λ item. item ∷ substitute_items bs) (pair_item b c) (Byte b ∷ substitute_items (c ∷ bs))

-- the same, where the flag `T` takes the substitute as plain text
abbrev pub items_by_flag : Bool → List ℕ → List SubstituteItem
items_by_flag plain substitute = if plain then map Byte substitute else substitute_items substitute

-- what one item writes at a match; a group that is absent or took no part writes nothing
abbrev pub item_bytes : List ℕ → Match → SubstituteItem → List ℕ
item_bytes text m (Byte b) = b ∷ []
item_bytes text m (Group n) = group_bytes text m n

-- what the items write at a match
abbrev pub written_items : List ℕ → List SubstituteItem → Match → List ℕ
written_items text items m = flat_map (item_bytes text m) items
