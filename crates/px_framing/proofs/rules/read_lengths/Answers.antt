use Rattle.std.proofs.Common.{◌∙◌, sym, ap}
use Rattle.px_framing.specs.Rules.{lengths, lengths_name}
use Rattle.px_framing.proofs.RuleLemmas.{finish, length-next, length-end, no-fields}
use Rattle.px_framing.proofs.rules.read_lengths.Goals as goal

pub returns-in-None : goal.returns-in-None
returns-in-None c =
    let goes = length-next c.args.other c.loop-field.seen c.args.fields.now c.loop-field.field-index c.field-item.result _ c.loop-field-test.true c.field-item.is c.loop-field.invariant.none c.in-None.ensures in
    sym (c.loop-field.invariant.rule ∙ goes)

pub loop-field-preserved : goal.loop-field-preserved
loop-field-preserved c =
    let goes = length-next c.args.other c.loop-field.seen c.args.fields.now c.loop-field.field-index c.field-item.result _ c.loop-field-test.true c.field-item.is c.loop-field.invariant.none c.in-Some.ensures in
    record { rule = c.loop-field.invariant.rule ∙ goes.0; none = goes.1 }

pub returns : goal.returns
returns c =
    c.by_lengths.ensures ∙ sym (length-end c.args.other c.loop-field.seen.first c.loop-field.seen.differ)
    ∙ sym (ap (λ vs. finish c.args.other c.loop-field.seen.first c.loop-field.seen.differ (lengths vs)) (no-fields lengths_name c.args.fields.now c.loop-field.field-index c.loop-field-test.false))
    ∙ sym c.loop-field.invariant.rule
