-- What a set has of a name.
use Rattle.std.proofs.Common.{◌≡◌, ℕ, Bool, true, false, List, [], ◌∷◌, cond}
use Rattle.std.specs.Prelude.{All}
use Rattle.std.specs.Str.{bytes_eq}
use Rattle.std.proofs.lemmas.List.Elements.{All-head, All-tail}
use Rattle.px_base.specs.Contents.{FitsLimit}
use Rattle.px_config.specs.declared.sets.TheConstants.{FILE_LIMIT}
use Rattle.px_config.specs.Sets.{FitsItem, Item, content_in}

pub fits_in : (items : List Item) (name : List ℕ) → All FitsItem items → FitsLimit FILE_LIMIT (content_in items name)
fits_in [] name all = tt
fits_in (item ∷ items) name all = by (bytes_eq item.0 name) (fits_in items name (All-tail FitsItem item items all))
  where
    by : (b : Bool) → FitsLimit FILE_LIMIT (content_in items name) → FitsLimit FILE_LIMIT (cond b item.1 (content_in items name))
    by true rest = All-head FitsItem item items all
    by false rest = rest
