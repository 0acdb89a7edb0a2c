-- Action sets: what is set of each kind, in byte order of the kinds' names (the manual's chapter on actions files).
use Rattle.std.specs.Prelude.{ℕ, ◌≡◌, ◌≤◌, ◌&&◌, Bool, true, false, not, if◌then◌else◌, List, [], ◌∷◌, ◌++◌, length, map, filter, take, slice_index_or, slice_set, Option, Some, None}
use Rattle.std.specs.List.{list_any, list_all, flat_map}
use Rattle.std.specs.Str.{byte, bytes_eq}
use Rattle.px_actions.specs.Kinds.{entry_of}
use Rattle.px_actions.specs.Rules.{keeps_rule}
use Rattle.px_actions.specs.Shapes.{is_flag_shape, is_single, is_multi}
use Rattle.px_actions.specs.declared.kinds.TheConstants.{KINDS}
use Rattle.px_actions.specs.declared.kinds.Kind.{Kind}
use Rattle.px_actions.specs.declared.kinds.Rule.{Rule}
use Rattle.px_actions.specs.declared.kinds.Shape.{Shape}
use Rattle.px_actions.specs.declared.kinds.Shape.TheVariants as shape
use Rattle.px_actions.specs.declared.changes.Change.{Change}
use Rattle.px_actions.specs.declared.changes.Change.TheVariants as change
use Rattle.px_actions.specs.declared.updates.Update.{Update}
use Rattle.px_actions.specs.declared.settings.Setting.{Setting}
use Rattle.px_actions.specs.declared.settings.Setting.TheVariants as setting

abbrev pub is_among : List ℕ → List (List ℕ) → Bool
is_among value values = list_any (λ v. bytes_eq v value) values

-- the list with the value, which goes last unless it is there
abbrev pub with_listed_value : List ℕ → List (List ℕ) → List (List ℕ)
with_listed_value value values = if is_among value values then values else values ++ value ∷ []

-- the list without the value
abbrev pub without_value : List ℕ → List (List ℕ) → List (List ℕ)
without_value value values = filter (λ v. not (bytes_eq v value)) values

-- what is set of a kind after a change of its shape; other changes leave it
abbrev pub changed_setting : Setting → Change → Setting
changed_setting (setting.Flag on) change.On = setting.Flag true
changed_setting (setting.Flag on) change.Off = setting.Flag false
changed_setting (setting.Flag on) (change.Set p) = setting.Flag on
changed_setting (setting.Flag on) (change.Add p) = setting.Flag on
changed_setting (setting.Flag on) (change.Remove p) = setting.Flag on
changed_setting (setting.Flag on) change.Clear = setting.Flag on
changed_setting (setting.Single value) change.On = setting.Single value
changed_setting (setting.Single value) change.Off = setting.Single None
changed_setting (setting.Single value) (change.Set p) = setting.Single (Some p)
changed_setting (setting.Single value) (change.Add p) = setting.Single value
changed_setting (setting.Single value) (change.Remove p) = setting.Single value
changed_setting (setting.Single value) change.Clear = setting.Single value
changed_setting (setting.Multi values) change.On = setting.Multi values
changed_setting (setting.Multi values) change.Off = setting.Multi values
changed_setting (setting.Multi values) (change.Set p) = setting.Multi values
changed_setting (setting.Multi values) (change.Add p) = setting.Multi (with_listed_value p values)
changed_setting (setting.Multi values) (change.Remove p) = setting.Multi (without_value p values)
changed_setting (setting.Multi values) change.Clear = setting.Multi []

-- what a set has of a kind
abbrev pub setting_of : List Setting → Kind → Setting
setting_of set kind = slice_index_or set (entry_of kind).place (setting.Flag false)

-- the set after an update
unfoldable pub updated : List Setting → Kind → Change → List Setting
updated set kind change = slice_set set (entry_of kind).place (changed_setting (setting_of set kind) change)

-- the set after updates in their order
abbrev pub updated_all : List Setting → List Update → List Setting
updated_all set [] = set
updated_all set (u ∷ updates) = updated_all (updated set u.kind u.change) updates

-- the set after some first ones of the updates
pub record IsUpdatedByFront (set : List Setting) (updates : List Update) (new : List Setting) : Type 0 where
  pub count : ℕ
  pub within : count ≤ length updates
  pub applied : new ≡ updated_all set (take count updates)

abbrev pub empty_setting : Shape → Setting
empty_setting shape.Flag = setting.Flag false
empty_setting shape.Single = setting.Single None
empty_setting shape.Multi = setting.Multi []

-- the set in which every flag is off, no value is set and each list is empty
unfoldable pub empty_set : List Setting
empty_set = map (λ kind. empty_setting (entry_of kind).shape) KINDS

abbrev pub is_switched : Setting → Bool
is_switched (setting.Flag on) = on
is_switched (setting.Single value) = false
is_switched (setting.Multi values) = false

-- whether a flag is on
unfoldable pub is_on : List Setting → Kind → Bool
is_on set kind = is_switched (setting_of set kind)

abbrev pub single_value : Setting → Option (List ℕ)
single_value (setting.Flag on) = None
single_value (setting.Single value) = value
single_value (setting.Multi values) = None

-- the value of a single kind
unfoldable pub value : List Setting → Kind → Option (List ℕ)
value set kind = single_value (setting_of set kind)

abbrev pub multi_values : Setting → List (List ℕ)
multi_values (setting.Flag on) = []
multi_values (setting.Single value) = []
multi_values (setting.Multi values) = values

-- the values of a list, in its order
unfoldable pub set_values : List Setting → Kind → List (List ℕ)
set_values set kind = multi_values (setting_of set kind)

-- no value stands twice
abbrev pub is_distinct : List (List ℕ) → Bool
is_distinct [] = true
is_distinct (v ∷ values) = not (is_among v values) && is_distinct values

-- what is set is of the shape, its values keep the rule, and a list has no repeats
abbrev pub fits_setting : Shape → Rule → Setting → Bool
fits_setting shape rule (setting.Flag on) = is_flag_shape shape
fits_setting shape rule (setting.Single None) = is_single shape
fits_setting shape rule (setting.Single (Some p)) = is_single shape && keeps_rule rule p
fits_setting shape rule (setting.Multi values) = is_multi shape && (list_all (keeps_rule rule) values && is_distinct values)

-- what is set of each kind fits that kind
pub record IsSoundSet (set : List Setting) : Type 0 where
  pub len : length set ≡ 41
  pub each : (kind : Kind) → fits_setting (entry_of kind).shape (entry_of kind).rule (setting_of set kind) ≡ true

-- a line of a set: a sign, a name, and a value in braces
abbrev pub flag_line : List ℕ → List ℕ
flag_line name = byte "+" ∷ name ++ 10 ∷ []

abbrev pub value_line : List ℕ → List ℕ → List ℕ
value_line name value = byte "+" ∷ name ++ byte "{" ∷ value ++ byte "}" ∷ 10 ∷ []

abbrev pub setting_lines : List ℕ → Setting → List ℕ
setting_lines name (setting.Flag true) = flag_line name
setting_lines name (setting.Flag false) = []
setting_lines name (setting.Single (Some p)) = value_line name p
setting_lines name (setting.Single None) = []
setting_lines name (setting.Multi values) = flat_map (value_line name) values

-- the lines of a set, in byte order of the names
unfoldable pub set_lines : List Setting → List ℕ
set_lines set = flat_map (λ kind. setting_lines (entry_of kind).name (setting_of set kind)) KINDS
