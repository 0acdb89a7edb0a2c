use Rattle.std.proofs.Common.{◌∙◌, ap}
use Rattle.std.proofs.lemmas.Result.{err_from_is_err_and}
use Rattle.px_text.specs.declared.joinings.Joining.{Joining}
use Rattle.px_text.proofs.StepLemmas.{end_lines, end_reports, end_sound}
use Rattle.px_text.proofs.joinings.Joining.end.Goals as goal

pub returns-in_err-finish-clause-refused : goal.returns-in_err-finish-clause-refused
returns-in_err-finish-clause-refused c =
    let p = err_from_is_err_and c.from_residual.result c.from_residual.ensures.1 in
    rw (p.1, p.2) (end_reports c.args.self c.in_err-finish.field-0.0 c.requires.joining c.in_err-finish.ensures.refused)

pub returns-clause-lines : goal.returns-clause-lines
returns-clause-lines c = ap (λ (j : Joining). j.lines) c.in_ok-finish.ensures.ended ∙ end_lines c.args.self

pub returns-clause-fault : goal.returns-clause-fault
returns-clause-fault c = end_sound c.args.self c.requires.joining c.in_ok-finish.ensures.text
