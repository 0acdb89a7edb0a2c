use Rattle.std.proofs.Common.{inl}
use Rattle.px_taggers.specs.Tagging.{rules, state}
use Rattle.px_taggers.proofs.FrontLemmas.{lines_begin, on_err_given}
use Rattle.px_taggers.proofs.lines.tag_headers.Goals as goal

pub returns-in_err-warm-clause-err : goal.returns-in_err-warm-clause-err
returns-in_err-warm-clause-err c =
    on_err_given c.from_residual.result
    (inl (lines_begin (rules c.args.sections.now.sections c.args.filters.now c.args.headers.now.side c.args.headers.now.vars.now) (state c.args.set.now c.args.tags.now) c.args.headers.now.lines.now))

pub returns-in_err-kept-clause-err : goal.returns-in_err-kept-clause-err
returns-in_err-kept-clause-err c =
    on_err_given c.from_residual-in_err-kept.result
    (inl (lines_begin (rules c.args.sections.now.sections c.args.filters.now c.args.headers.now.side c.args.headers.now.vars.now) (state c.args.set.now c.args.tags.now) c.args.headers.now.lines.now))
