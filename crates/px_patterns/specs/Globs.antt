-- Labels of host patterns: what their texts stand for, and what they match.
use Rattle.std.specs.Prelude.{◌≡◌, ℕ, ◌==◌, ◌&&◌, ◌||◌, Bool, true, false, nat_le, if◌then◌else◌, IsTrue, List, [], ◌∷◌, ◌++◌, length, map, Option, None, Some, option_and_then, option_map}
use Rattle.std.specs.Char.{eq_ignore_ascii_case, to_ascii_lowercase, to_ascii_uppercase}
use Rattle.std.specs.List.{list_any}
use Rattle.std.specs.Str.{str_eq_ignore_ascii_case}
use Rattle.px_patterns.specs.declared.TheConstants.{CLASS_BEGIN, CLASS_END, DASH, QUESTION_MARK, STAR}
use Rattle.px_patterns.specs.declared.labels.ClassRange.{ClassRange}
use Rattle.px_patterns.specs.declared.labels.LabelItem.{LabelItem}
use Rattle.px_patterns.specs.declared.labels.LabelItem.TheVariants.{AnyByte, AnyRun, Byte, Class}
use Rattle.px_patterns.specs.declared.labels.LabelPattern.{LabelPattern}
use Rattle.px_patterns.specs.declared.labels.LabelPattern.TheVariants.{Glob, Plain}

-- ---- what a label's text stands for

-- a range's bytes in order before the ranges that follow
abbrev pub with_range : ℕ → ℕ → Option (List ClassRange) → Option (List ClassRange)
with_range first last rest = if nat_le first last then option_map (λ ranges. record { first = first; last = last } ∷ ranges) rest else None

-- the ranges between the brackets of a class: a byte, or two with a dash between them
unfoldable pub class_ranges : List ℕ → Option (List ClassRange)
class_ranges [] = Some []
class_ranges (a ∷ []) = with_range a a (Some [])
class_ranges (a ∷ b ∷ []) = with_range a a (with_range b b (Some []))
class_ranges (a ∷ b ∷ c ∷ rest) = if b == DASH then with_range a c (class_ranges rest) else with_range a a (class_ranges (b ∷ c ∷ rest))

-- the class between two brackets, which isn't empty
abbrev pub class_of : List ℕ → Option LabelItem
class_of bytes = if length bytes == 0 then None else option_map (λ ranges. Class ranges) (class_ranges bytes)

abbrev pub with_glob_item : LabelItem → Option (List LabelItem) → Option (List LabelItem)
with_glob_item item rest = option_map (λ items. item ∷ items) rest

-- the item of a byte outside of a class
abbrev pub glob_item : ℕ → LabelItem
glob_item b = if b == STAR then AnyRun else if b == QUESTION_MARK then AnyByte else Byte b

-- the items of a label's text, the first of which is a class that has begun with some bytes, if there are any
unfoldable pub items_from : Option (List ℕ) → List ℕ → Option (List LabelItem)
items_from None [] = Some []
items_from (Some begun) [] = None
items_from None (b ∷ bytes) = if b == CLASS_BEGIN then items_from (Some []) bytes else with_glob_item (glob_item b) (items_from None bytes)
items_from (Some begun) (b ∷ bytes) =
    if b == CLASS_END then option_and_then (λ class. with_glob_item class (items_from None bytes)) (class_of begun)
    else items_from (Some (begun ++ b ∷ [])) bytes

-- `*`, `?` and `[` stand for other bytes than themselves
abbrev pub is_wild : ℕ → Bool
is_wild b = (b == STAR || b == QUESTION_MARK) || b == CLASS_BEGIN

-- the label that a text stands for
unfoldable pub label_of : List ℕ → Option LabelPattern
label_of text = if list_any is_wild text then option_map (λ items. Glob items) (items_from None text) else Some (Plain text)

-- ---- what a label matches

-- a byte lies in a class if it lies in one of its ranges in either case
abbrev pub in_range : ℕ → ClassRange → Bool
in_range b range = nat_le range.first b && nat_le b range.last

abbrev pub in_class : List ClassRange → ℕ → Bool
in_class ranges b = list_any (λ range. in_range (to_ascii_lowercase b) range || in_range (to_ascii_uppercase b) range) ranges

-- whether an item stands for one byte, and for this one
abbrev pub takes : LabelItem → ℕ → Bool
takes AnyRun b = false
takes AnyByte b = true
takes (Byte a) b = eq_ignore_ascii_case a b
takes (Class ranges) b = in_class ranges b

-- the piece of a label for which an item stands
abbrev pub IsPiece : LabelItem → List ℕ → Type 0
IsPiece AnyRun piece = Unit {0}
IsPiece item piece = (b : ℕ) × (piece ≡ b ∷ []) × IsTrue (takes item b)

-- a piece for each item
abbrev pub ArePieces : List LabelItem → List (List ℕ) → Type 0
ArePieces [] [] = Unit {0}
ArePieces [] (piece ∷ pieces) = ⊥
ArePieces (item ∷ items) [] = ⊥
ArePieces (item ∷ items) (piece ∷ pieces) = IsPiece item piece × ArePieces items pieces

abbrev pub joined_pieces : List (List ℕ) → List ℕ
joined_pieces [] = []
joined_pieces (piece ∷ pieces) = piece ++ joined_pieces pieces

-- a label can be cut into pieces, one for each item
abbrev pub CanBeCut : List LabelItem → List ℕ → Type 0
CanBeCut items label = (pieces : List (List ℕ)) × ArePieces items pieces × (joined_pieces pieces ≡ label)

-- the items of a label pattern
abbrev pub label_items : LabelPattern → List LabelItem
label_items (Plain text) = map (λ b. Byte b) text
label_items (Glob items) = items

-- ---- the same as a test

-- whether a list or one of the lists at its end passes
abbrev pub some_tail : {X : Type 0} → (List X → Bool) → List X → Bool
some_tail test [] = test []
some_tail test (x ∷ xs) = test (x ∷ xs) || some_tail test xs

-- whether the item takes the first byte, and the rest passes
abbrev pub takes_first : LabelItem → (List ℕ → Bool) → List ℕ → Bool
takes_first item test [] = false
takes_first item test (b ∷ bytes) = takes item b && test bytes

unfoldable pub glob_matches : List LabelItem → List ℕ → Bool
glob_matches [] label = length label == 0
glob_matches (AnyRun ∷ items) label = some_tail (glob_matches items) label
glob_matches (item ∷ items) label = takes_first item (glob_matches items) label

abbrev pub label_matches : LabelPattern → List ℕ → Bool
label_matches (Plain text) label = str_eq_ignore_ascii_case text label
label_matches (Glob items) label = glob_matches items label
