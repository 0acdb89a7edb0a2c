use Rattle.std.proofs.Common.{arith}
use Rattle.px_head.specs.Prints.{field_lines}
use Rattle.px_head.proofs.PrintLemmas.{lines-next}
use Rattle.px_head.proofs.prints.printed_len.Goals as goal

pub loop-field-init : goal.loop-field-init
unfolding field_lines
loop-field-init c = omega arith

pub loop-field-preserved : goal.loop-field-preserved
loop-field-preserved c =
    let next = lines-next c.args.fields.now c.loop-field.field-index c.field-item.result c.loop-field-test.true c.field-item.is in
    omega (arith, next)
