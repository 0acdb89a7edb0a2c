-- The store that a session keeps.
use Rattle.std.specs.Prelude.{unwrap_or}
use Rattle.std.proofs.Common.{◌≡◌, ℕ, ◌+◌, List, length, slice_get, Some, sym, ap, ◌∙◌}
use Rattle.px_config.specs.declared.configs.Config.{Config}
use Rattle.px_publish.specs.Views.{Entry, GoesOn, IsLast}
use Rattle.px_serve.specs.declared.keeping.Store.{Store}
use Rattle.px_serve.specs.declared.keeping.Store.TheVariants as store
use Rattle.px_serve.specs.Keeping.{IsKept, IsStored, OfEntry}

-- where the number is that of an entry, what is kept is that entry
pub kept_is : (view view' : List Config) (kept : Entry Config) (number : ℕ) (config : Config) → GoesOn view view' → IsKept view kept → slice_get view' number ≡ Some config
    → kept.number ≡ number → kept.config ≡ config
kept_is view view' kept number config on h entry e =
    ap (λ o. unwrap_or o kept.config) (sym (on.stands kept.number kept.config h) ∙ ap (λ (n : ℕ). slice_get view' n) e ∙ entry)

-- entries may have come behind that one
pub stored_on : (view view' : List Config) (s : Store) → GoesOn view view' → IsStored view s → IsStored view' s
stored_on view view' (store.Of kept) on h = on.stands kept.number kept.config h
stored_on view view' store.Wanting on h = tt

-- a store of the entry that is held
pub stored_new : (view : List Config) (number : ℕ) (config : Config) (s : Store) → length view ≡ number + 1 → IsLast view config → OfEntry (record { number = number; config = config }) s → IsStored view s
stored_new view number config (store.Of kept) count last h = rw h (last number count)
stored_new view number config store.Wanting count last h = tt
