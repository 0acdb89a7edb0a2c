-- How a table keeps what is set of each kind: flags, which lie over what is set of the others, and an entry for each other kind that has a value.
use Rattle.std.specs.Prelude.{◌==◌, Bool, IsTrue, List, [], ◌∷◌, Option, None, Some, false, slice_index_or, slice_set}
use Rattle.std.specs.List.{list_all}
use Rattle.px_actions.specs.Kinds.{entry_of}
use Rattle.px_actions.specs.Sets.{changed_setting, empty_set, empty_setting}
use Rattle.px_actions.specs.declared.changes.Change.{Change}
use Rattle.px_actions.specs.declared.entries.SetEntry.{SetEntry}
use Rattle.px_actions.specs.declared.kinds.Kind.{Kind}
use Rattle.px_actions.specs.declared.settings.Setting.{Setting}
use Rattle.px_actions.specs.declared.settings.Setting.TheVariants as setting

-- where what is set is a flag, it is on as the one that lies over it
abbrev pub laid : Bool → Setting → Setting
laid on (setting.Flag other) = setting.Flag on
laid on (setting.Single value) = setting.Single value
laid on (setting.Multi values) = setting.Multi values

abbrev pub laid_over : List Bool → List Setting → List Setting
laid_over [] settings = []
laid_over (on ∷ flags) [] = []
laid_over (on ∷ flags) (s ∷ settings) = laid on s ∷ laid_over flags settings

-- what is set of each kind: that of its first entry, and nothing where it has none
abbrev pub settings_in : List SetEntry → List Setting
settings_in [] = empty_set
settings_in (e ∷ entries) = slice_set (settings_in entries) (entry_of e.kind).place e.setting

-- what is set of a kind that may have an entry
abbrev pub setting_or_empty : Kind → Option Setting → Setting
setting_or_empty kind None = empty_setting (entry_of kind).shape
setting_or_empty kind (Some s) = s

-- whether an entry is of a kind
abbrev pub is_of_kind : Kind → SetEntry → Bool
is_of_kind kind entry = (entry_of entry.kind).place == (entry_of kind).place

-- the kind of each entry is marked
abbrev pub AreMarked : List Bool → List SetEntry → Type 0
AreMarked marks entries = IsTrue (list_all (λ e. slice_index_or marks (entry_of e.kind).place false) entries)

-- the entry of a kind after its first change
abbrev pub first_entry : Kind → Change → SetEntry
first_entry kind change = record { kind = kind; setting = changed_setting (empty_setting (entry_of kind).shape) change }
