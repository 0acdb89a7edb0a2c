use Rattle.std.proofs.Common.{◌+◌, ◌++◌, ◌∙◌, List, ℕ, ap, sym, drop, append_assoc, flat_map}
use Rattle.px_framing.specs.Rules.{codings_name, items_of, field_values}
use Rattle.px_framing.proofs.RuleLemmas.{codings-next}
use Rattle.px_framing.proofs.codings.codings.Goals as goal

pub loop-field-preserved : goal.loop-field-preserved
loop-field-preserved c =
    let rest = flat_map items_of (field_values codings_name (drop (c.loop-field.field-index + 1) c.args.fields.now)) in
    c.loop-field.invariant
    ∙ ap (λ (w : List (List ℕ)). c.loop-field.items ++ w) (codings-next c.args.fields.now c.loop-field.field-index c.field-item.result c.loop-field-test.true c.field-item.is)
    ∙ sym (append_assoc c.loop-field.items _ rest) ∙ ap (λ (w : List (List ℕ)). w ++ rest) (sym c.in_ok-add_codings.ensures)
