-- Files by their names, so that finding one looks at few.
use Rattle.std.specs.Prelude.{◌≡◌, ℕ, Bool, List, Option, Vec, option_copied, unwrap_or}
use Rattle.std.specs.Borrow.{Bor}
use Rattle.std.specs.BTreeMap.{BTreeMap, get_by}
use Rattle.std.specs.BTreeSet.{BTreeSet, contains_by}
use Rattle.std.specs.Cmp.Lexicographic.{slice_cmp}
use Rattle.std.specs.Ordering.{nat_cmp}
use Rattle.px_base.specs.declared.files.Content.{Content}
use Rattle.px_base.specs.declared.files.Content.TheVariants as content
use Rattle.px_config.specs.Sets.{Item, content_in, is_in}

-- what a map from names has of a name
abbrev pub found_in : {X Y : Type 0} → BTreeMap (Vec ℕ Y) X → List ℕ → Option X
found_in map name = get_by (λ k. slice_cmp nat_cmp name k.items) map

-- a name that the map doesn't have is missing
abbrev pub content_at : {Y : Type 0} → BTreeMap (Vec ℕ Y) (Bor Content) → List ℕ → Content
content_at map name = unwrap_or (option_copied (found_in map name)) content.Missing

-- the map has what the items have of each name
abbrev pub HasContents : {Y : Type 0} → List Item → BTreeMap (Vec ℕ Y) (Bor Content) → Type 0
HasContents items map = (name : List ℕ) → content_at map name ≡ content_in items name

-- whether a set of names has a name
abbrev pub names_hold : {Y : Type 0} → BTreeSet (Vec ℕ Y) → List ℕ → Bool
names_hold names name = contains_by (λ k. slice_cmp nat_cmp name k.items) names

-- the set has the names of the items
abbrev pub HasNames : {Y : Type 0} → List Item → BTreeSet (Vec ℕ Y) → Type 0
HasNames items names = (name : List ℕ) → names_hold names name ≡ is_in items name
