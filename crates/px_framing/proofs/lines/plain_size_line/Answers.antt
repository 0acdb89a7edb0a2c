use Rattle.std.proofs.Common.{arith}
use Rattle.std.proofs.lemmas.List.{take_rest}
use Rattle.px_framing.proofs.HeldLemmas.{digits-line}
use Rattle.px_framing.proofs.lines.plain_size_line.Goals as goal

pub returns-then-begins_with_line_end : goal.returns-then-begins_with_line_end
returns-then-begins_with_line_end c =
    let digits = c.in-Some.ensures in
    digits-line c.args.bytes.now c.in-Some.digits.len c.in-Some.digits.value c.place_after_size.result digits.len (omega arith) (omega arith) digits.within digits.value digits.small
    (rw take_rest at c.begins_with_line_end.ensures c.if-begins_with_line_end.true) c.place_after_size.ensures
