use Rattle.std.proofs.Common.{true, false, Some, ap, sym, ◌∙◌, arith}
use Rattle.std.proofs.lemmas.List.{take_rest}
use Rattle.px_framing.proofs.LineLemmas.{no-digits, large-digits, size-read}
use Rattle.px_framing.proofs.lines.read_size.Goals as goal

pub returns-then-digits-eq0 : goal.returns-then-digits-eq0
returns-then-digits-eq0 c = no-digits c.args.text.now (omega (arith, c.in-Some.ensures.len))

pub returns-then-ends_size : goal.returns-then-ends_size
returns-then-ends_size c =
    let digits = c.in-Some.ensures in
    ap Some digits.value ∙ size-read c.args.text.now c.in-Some.digits.len true digits.len (omega arith) (omega (arith, digits.value, digits.small)) (sym c.if-ends_size.true ∙ (rw take_rest at c.ends_size.ensures))

pub returns-else-ends_size : goal.returns-else-ends_size
returns-else-ends_size c =
    let digits = c.in-Some.ensures in
    size-read c.args.text.now c.in-Some.digits.len false digits.len (omega arith) (omega (arith, digits.value, digits.small)) (sym c.if-ends_size.false ∙ (rw take_rest at c.ends_size.ensures))

pub returns-in-None : goal.returns-in-None
returns-in-None c = large-digits c.args.text.now c.in-None.ensures.small
