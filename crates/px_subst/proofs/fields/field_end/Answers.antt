use Rattle.std.proofs.Common.{not, ◌&&◌, eqb, get_or, ap, sym, ◌∙◌, ne_eqb}
use Rattle.px_subst.specs.Fields.{backslash}
use Rattle.px_subst.proofs.FieldLemmas.{field_goes_on}
use Rattle.px_subst.proofs.fields.field_end.Goals as goal
use Rattle.px_subst.proofs.fields.field_end.Goals.{then-taken, else-taken+else-byte-delimiter}

pub loop-at-preserved : goal.loop-at-preserved
loop-at-preserved c =
    let d = c.args.delimiter in
    let byte = get_or c.args.text.now c.loop-at.at 0 in
    elim c.if-taken.branch [
      | then-taken w ↦ field_goes_on d _ _ _ _ c.loop-at-test.true (ap (λ t. not t && eqb byte d) w.if-taken.true)
          (w.taken-is ∙ sym (ap (λ t. not t && eqb byte backslash) w.if-taken.true)) c.loop-at.invariant
      | else-taken+else-byte-delimiter w ↦ field_goes_on d _ _ _ _ c.loop-at-test.true
          (ap (λ t. not t && eqb byte d) w.if-taken.false ∙ ne_eqb byte d w.if-byte-delimiter.false)
          (w.taken-is ∙ sym (ap (λ t. not t && eqb byte backslash) w.if-taken.false)) c.loop-at.invariant
    ]
