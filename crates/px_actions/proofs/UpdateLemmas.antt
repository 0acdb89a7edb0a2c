-- What a word asks is of its kind.
use Rattle.std.proofs.Common.{◌≡◌, ℕ, Bool, true, false, List, Option, Some, None, Ok, refl, arith}
use Rattle.px_actions.specs.Rules.{keeps_rule}
use Rattle.px_actions.specs.Shapes.{fits_by}
use Rattle.px_actions.specs.Updates.{has_parameter, parameter_of, change_by, shape_change}
use Rattle.px_actions.specs.declared.kinds.Rule.{Rule}
use Rattle.px_actions.specs.declared.kinds.Shape.{Shape}
use Rattle.px_actions.specs.declared.kinds.Shape.TheVariants as shape
use Rattle.px_actions.specs.declared.changes.Change.{Change}
use Rattle.px_actions.specs.declared.changes.Change.TheVariants as change
use Rattle.px_actions.specs.declared.updates.Sign.{Sign}
use Rattle.px_actions.specs.declared.updates.Sign.TheVariants.{Plus, Minus}

has_parameter-kept : (rule : Rule) (behind : List ℕ) → has_parameter rule behind ≡ true → keeps_rule rule (parameter_of behind) ≡ true
unfolding has_parameter
has_parameter-kept rule behind h = grind arith

by_parameter : (rule : Rule) (behind : List ℕ) (held : Bool) (made : List ℕ → Change) (shape : Shape) (c : Change) → has_parameter rule behind ≡ held
    → ((p : List ℕ) → keeps_rule rule p ≡ true → fits_by shape rule (made p) ≡ true) → change_by rule made behind ≡ Ok c → fits_by shape rule c ≡ true
by_parameter rule behind true made shape c h fit e =
    let asked = rw h at e in
    let same : made (parameter_of behind) ≡ c = (cc) in
    rw (← same) (fit (parameter_of behind) (has_parameter-kept rule behind h))
by_parameter rule behind false made shape c h fit e = let refused = rw h at e in absurd (cc)

pub changes_fit : (shape : Shape) (rule : Rule) (sign : Sign) (behind : Option (List ℕ)) (c : Change)
    → shape_change shape rule sign behind ≡ Ok c → fits_by shape rule c ≡ true
changes_fit shape.Flag rule sign (Some behind) c e = absurd (cc)
changes_fit shape.Flag rule Plus None c e = grind arith
changes_fit shape.Flag rule Minus None c e = grind arith
changes_fit shape.Single rule Minus (Some behind) c e = absurd (cc)
changes_fit shape.Single rule Minus None c e = grind arith
changes_fit shape.Single rule Plus None c e = absurd (cc)
changes_fit shape.Single rule Plus (Some behind) c e = by_parameter rule behind (has_parameter rule behind) change.Set shape.Single c refl (λ p k. k) e
changes_fit shape.Multi rule Plus None c e = absurd (cc)
changes_fit shape.Multi rule Minus None c e = grind arith
changes_fit shape.Multi rule Plus (Some behind) c e = by_parameter rule behind (has_parameter rule behind) change.Add shape.Multi c refl (λ p k. k) e
changes_fit shape.Multi rule Minus (Some behind) c e = by_parameter rule behind (has_parameter rule behind) change.Remove shape.Multi c refl (λ p k. k) e
