use Rattle.std.proofs.lemmas.Result.{err_from_is_err_and}
use Rattle.px_text.proofs.PartLemmas.{length-without_mark}
use Rattle.px_text.proofs.StepLemmas.{continues_first, continues_refused}
use Rattle.px_text.proofs.lines.logical_lines.Goals as goal

pub loop-rest-init : goal.loop-rest-init
loop-rest-init c =
    continues_first c.args.text.now c.without_mark-rest.result.now c.begin-joining.result c.without_mark-rest.ensures c.begin-joining.ensures.joining c.begin-joining.ensures.first
    c.begin-joining.ensures.next (length-without_mark c.args.text.now c.without_mark-rest.result.now c.without_mark-rest.ensures)

pub returns-in_err-add-clause-fault : goal.returns-in_err-add-clause-fault
returns-in_err-add-clause-fault c =
    let p = err_from_is_err_and c.from_residual.result c.from_residual.ensures.1 in
    rw (p.1, p.2)
    (continues_refused c.args.text.now c.loop-rest.rest.now c.split_line.result.0.now c.split_line.result.1.now c.loop-rest.joining c.in_err-add.field-0.0 c.loop-rest.invariant c.split_line.ensures.split
    c.in_err-add.ensures.refused)
