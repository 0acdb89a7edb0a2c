-- The store that a session keeps from request to request: of one entry of its configurations.
use Rattle.std.specs.Prelude.{◌≡◌, ℕ, List, Option, None, Some, slice_get}
use Rattle.px_config.specs.declared.configs.Config.{Config}
use Rattle.px_publish.specs.Views.{Entry}
use Rattle.px_serve.specs.declared.keeping.Store.{Store}
use Rattle.px_serve.specs.declared.keeping.Store.TheVariants as store

-- the entry stands on the view
abbrev pub IsKept : List Config → Entry Config → Type 0
IsKept view entry = slice_get view entry.number ≡ Some entry.config

-- the same of a store that there may be
abbrev pub IsStored : List Config → Store → Type 0
IsStored view (store.Of kept) = IsKept view kept
IsStored view store.Wanting = Unit {0}

-- a store that there may be is of that entry
abbrev pub OfEntry : Entry Config → Store → Type 0
OfEntry entry (store.Of kept) = kept ≡ entry
OfEntry entry store.Wanting = Unit {0}

-- the number of the entry whose store it is
abbrev pub store_number : Store → Option ℕ
store_number (store.Of kept) = Some kept.number
store_number store.Wanting = None
