-- The words of sections, and the updates that they stand for (the manual's chapter on actions files).
use Rattle.std.specs.Prelude.{ℕ, ◌+◌, ◌-◌, ◌==◌, ◌&&◌, Bool, if◌then◌else◌, List, [], ◌∷◌, length, take, drop, Option, Some, None, Result, Ok, Err, option_map}
use Rattle.std.specs.List.{position, before_first}
use Rattle.std.specs.Str.{byte}
use Rattle.px_base.specs.Blanks.{trimmed}
use Rattle.px_actions.specs.Braces.{is_closed}
use Rattle.px_actions.specs.Kinds.{entry_of, kind_named}
use Rattle.px_actions.specs.Rules.{keeps_rule}
use Rattle.px_actions.specs.declared.faults.ActionFault.{ActionFault}
use Rattle.px_actions.specs.declared.faults.ActionFault.TheVariants as fault
use Rattle.px_actions.specs.declared.kinds.Kind.{Kind}
use Rattle.px_actions.specs.declared.kinds.Rule.{Rule}
use Rattle.px_actions.specs.declared.kinds.Shape.{Shape}
use Rattle.px_actions.specs.declared.kinds.Shape.TheVariants as shape
use Rattle.px_actions.specs.declared.changes.Change.{Change}
use Rattle.px_actions.specs.declared.changes.Change.TheVariants as change
use Rattle.px_actions.specs.declared.updates.Sign.{Sign}
use Rattle.px_actions.specs.declared.updates.Sign.TheVariants.{Plus, Minus}

abbrev pub is_opening_brace : ℕ → Bool
is_opening_brace b = b == byte "{"

-- what stands behind the first open brace, if there is one
abbrev pub behind_brace : List ℕ → Option (List ℕ)
behind_brace text = option_map (λ at. drop (at + 1) text) (position is_opening_brace text)

-- the parameter of what stands behind its open brace: without the last brace, and without white space at its ends
abbrev pub parameter_of : List ℕ → List ℕ
parameter_of behind = trimmed (take (length behind - 1) behind)

-- the word's last byte is the brace that balances the first, and the parameter keeps the rule
unfoldable pub has_parameter : Rule → List ℕ → Bool
has_parameter rule behind = is_closed behind && keeps_rule rule (parameter_of behind)

-- a change by a parameter
abbrev pub change_by : Rule → (List ℕ → Change) → List ℕ → Result Change ActionFault
change_by rule made behind = if has_parameter rule behind then Ok (made (parameter_of behind)) else Err fault.BadParameter

-- the change of a flag, by its sign and what stands behind an open brace
abbrev pub flag_change : Sign → Option (List ℕ) → Result Change ActionFault
flag_change sign (Some behind) = Err fault.ParameterUnwanted
flag_change Plus None = Ok change.On
flag_change Minus None = Ok change.Off

abbrev pub single_change : Rule → Sign → Option (List ℕ) → Result Change ActionFault
single_change rule Minus (Some behind) = Err fault.ParameterUnwanted
single_change rule Minus None = Ok change.Off
single_change rule Plus None = Err fault.ParameterWanted
single_change rule Plus (Some behind) = change_by rule change.Set behind

abbrev pub multi_change : Rule → Sign → Option (List ℕ) → Result Change ActionFault
multi_change rule Plus None = Err fault.ParameterWanted
multi_change rule Minus None = Ok change.Clear
multi_change rule Plus (Some behind) = change_by rule change.Add behind
multi_change rule Minus (Some behind) = change_by rule change.Remove behind

abbrev pub shape_change : Shape → Rule → Sign → Option (List ℕ) → Result Change ActionFault
shape_change shape.Flag rule sign behind = flag_change sign behind
shape_change shape.Single rule sign behind = single_change rule sign behind
shape_change shape.Multi rule sign behind = multi_change rule sign behind

-- an update: a kind and its change
abbrev pub with_kind : Kind → Result Change ActionFault → Result (Kind × Change) ActionFault
with_kind kind (Ok c) = Ok (kind, c)
with_kind kind (Err f) = Err f

abbrev pub kind_update : Sign → Option (List ℕ) → Option Kind → Result (Kind × Change) ActionFault
kind_update sign behind None = Err fault.UnknownAction
kind_update sign behind (Some kind) = with_kind kind (shape_change (entry_of kind).shape (entry_of kind).rule sign behind)

-- what stands behind the sign: a name up to the first open brace, and a parameter if there is that brace
abbrev pub signed_update : Sign → List ℕ → Result (Kind × Change) ActionFault
signed_update sign text = kind_update sign (behind_brace text) (kind_named (before_first is_opening_brace text))

-- the update that a word stands for
unfoldable pub word_update : List ℕ → Result (Kind × Change) ActionFault
word_update [] = Err fault.UnknownAction
word_update (b ∷ text) =
    if b == byte "+" then signed_update Plus text else (if b == byte "-" then signed_update Minus text else Err fault.UnknownAction)
