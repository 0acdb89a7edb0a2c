use Rattle.std.proofs.Common.{◌∙◌, sym, arith}
use Rattle.std.proofs.lemmas.Result.{err_from_is_err_and}
use Rattle.px_text.proofs.StepLemmas.{step_continued, step_last, step_long, step_noted, step_refuses, text_added}
use Rattle.px_text.proofs.joinings.Joining.add.Goals as goal

pub returns-in_err-note-clause-refused : goal.returns-in_err-note-clause-refused
returns-in_err-note-clause-refused c =
    let p = err_from_is_err_and c.from_residual.result c.from_residual.ensures.1 in
    rw (p.1, p.2) (step_noted c.args.self.now c.args.line.now c.in_err-note.field-0.0 c.requires.joining c.in_err-note.ensures.refused)

pub returns-then-len-gt-LINE_LIMIT-clause-refused : goal.returns-then-len-gt-LINE_LIMIT-clause-refused
returns-then-len-gt-LINE_LIMIT-clause-refused c =
    step_long c.args.self.now c.note.new.self c.args.line.now c.push_part.new.joined c.requires.joining c.in_ok-note.ensures.noted c.in_ok-note.ensures.later
    (text_added c.args.self.now c.note.new.self c.args.line.now c.split_continuation-continued.result.0.now c.push_part.new.joined c.in_ok-note.ensures.noted c.split_continuation-continued.ensures.line c.in_ok-push_part.ensures)
    (omega (arith, c.len.ensures, c.if-len-gt-LINE_LIMIT.true))

pub returns-then-continued-clause-added : goal.returns-then-continued-clause-added
returns-then-continued-clause-added c =
    step_continued c.args.self.now c.note.new.self c.args.line.now c.push_part.new.joined c.in_ok-note.ensures.noted
    (text_added c.args.self.now c.note.new.self c.args.line.now c.split_continuation-continued.result.0.now c.push_part.new.joined c.in_ok-note.ensures.noted c.split_continuation-continued.ensures.line c.in_ok-push_part.ensures)
    (sym c.split_continuation-continued.ensures.continued ∙ c.if-continued.true)

pub returns-in_err-finish-clause-refused : goal.returns-in_err-finish-clause-refused
returns-in_err-finish-clause-refused c =
    let p = err_from_is_err_and c.from_residual-in_err-finish.result c.from_residual-in_err-finish.ensures.1 in
    rw (p.1, p.2)
    (step_refuses c.args.self.now c.note.new.self c.args.line.now c.push_part.new.joined c.in_err-finish.field-0.0 c.in_ok-note.ensures.noted
    (text_added c.args.self.now c.note.new.self c.args.line.now c.split_continuation-continued.result.0.now c.push_part.new.joined c.in_ok-note.ensures.noted c.split_continuation-continued.ensures.line c.in_ok-push_part.ensures)
    (sym c.split_continuation-continued.ensures.continued ∙ c.if-continued.false) (omega (arith, c.len.ensures, c.if-len-gt-LINE_LIMIT.false)) c.in_ok-note.ensures.later c.in_err-finish.ensures.refused)

pub returns-clause-added : goal.returns-clause-added
returns-clause-added c =
    step_last c.args.self.now c.note.new.self c.finish.new.self c.args.line.now c.push_part.new.joined c.in_ok-note.ensures.noted
    (text_added c.args.self.now c.note.new.self c.args.line.now c.split_continuation-continued.result.0.now c.push_part.new.joined c.in_ok-note.ensures.noted c.split_continuation-continued.ensures.line c.in_ok-push_part.ensures)
    (sym c.split_continuation-continued.ensures.continued ∙ c.if-continued.false) (omega (arith, c.len.ensures, c.if-len-gt-LINE_LIMIT.false)) c.in_ok-finish.ensures.text c.in_ok-finish.ensures.ended
