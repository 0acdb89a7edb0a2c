use Rattle.std.proofs.lemmas.Result.{err_from_is_err_and}
use Rattle.px_patterns.proofs.PatternLemmas.{tag_pattern-ok, tag_pattern-refused}
use Rattle.px_patterns.proofs.patterns.TagPattern.read.Goals as goal

pub returns-in_err-expression-clause-refused : goal.returns-in_err-expression-clause-refused
returns-in_err-expression-clause-refused c =
    let p = err_from_is_err_and c.from_residual.result c.from_residual.ensures.1 in
    rw (p.1, p.2) (tag_pattern-refused c.args.text.now c.in_err-expression.field-0.0 c.in_err-expression.ensures.refused)

pub returns-clause-pattern : goal.returns-clause-pattern
returns-clause-pattern c = tag_pattern-ok c.args.text.now c.in_ok-expression.expression c.in_ok-expression.ensures.text
