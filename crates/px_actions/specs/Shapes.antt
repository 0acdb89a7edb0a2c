-- Changes and the shapes of kinds.
use Rattle.std.specs.Prelude.{◌&&◌, Bool, true, false, not}
use Rattle.px_actions.specs.Kinds.{entry_of}
use Rattle.px_actions.specs.Rules.{keeps_rule}
use Rattle.px_actions.specs.declared.kinds.Kind.{Kind}
use Rattle.px_actions.specs.declared.kinds.Rule.{Rule}
use Rattle.px_actions.specs.declared.kinds.Shape.{Shape}
use Rattle.px_actions.specs.declared.kinds.Shape.TheVariants as shape
use Rattle.px_actions.specs.declared.changes.Change.{Change}
use Rattle.px_actions.specs.declared.changes.Change.TheVariants as change

abbrev pub is_flag_shape : Shape → Bool
is_flag_shape shape.Flag = true
is_flag_shape shape.Single = false
is_flag_shape shape.Multi = false

abbrev pub is_single : Shape → Bool
is_single shape.Flag = false
is_single shape.Single = true
is_single shape.Multi = false

abbrev pub is_multi : Shape → Bool
is_multi shape.Flag = false
is_multi shape.Single = false
is_multi shape.Multi = true

-- the change is one of the shape, and its parameter keeps the rule
abbrev pub fits_by : Shape → Rule → Change → Bool
fits_by shape rule change.On = is_flag_shape shape
fits_by shape rule change.Off = not (is_multi shape)
fits_by shape rule (change.Set p) = is_single shape && keeps_rule rule p
fits_by shape rule (change.Add p) = is_multi shape && keeps_rule rule p
fits_by shape rule (change.Remove p) = is_multi shape && keeps_rule rule p
fits_by shape rule change.Clear = is_multi shape

-- the change is one of its kind
unfoldable pub fits : Kind → Change → Bool
fits kind change = fits_by (entry_of kind).shape (entry_of kind).rule change

-- a change that puts a text into a set
abbrev pub TakesMemory : Change → Type 0
TakesMemory change.On = ⊥
TakesMemory change.Off = ⊥
TakesMemory (change.Set p) = Unit {0}
TakesMemory (change.Add p) = Unit {0}
TakesMemory (change.Remove p) = ⊥
TakesMemory change.Clear = ⊥
