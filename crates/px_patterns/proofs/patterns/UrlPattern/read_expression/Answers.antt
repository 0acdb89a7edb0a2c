use Rattle.std.proofs.Common.{None, Some}
use Rattle.px_patterns.specs.Patterns.{behind_slash, expression_pattern, host_expression, with_expression}
use Rattle.px_patterns.proofs.FaultLemmas.{handed_ok, handed_refusal}
use Rattle.px_patterns.proofs.PatternLemmas.{expression_no_slash, expression_slash}
use Rattle.px_patterns.proofs.patterns.UrlPattern.read_expression.Goals as goal

pub returns-in-Some-clause-pattern : goal.returns-in-Some-clause-pattern
returns-in-Some-clause-pattern c =
    handed_ok c.read_expression_parts.result (expression_pattern c.args.text.now) (with_expression (host_expression c.in-Some.host_part.now) (behind_slash (Some c.in-Some.path.now)))
    (expression_slash c.args.text.now c.in-Some.host_part.now c.in-Some.path.now c.in-Some.ensures)
    c.read_expression_parts.ensures.pattern

pub returns-in-Some-clause-refused : goal.returns-in-Some-clause-refused
returns-in-Some-clause-refused c =
    handed_refusal c.read_expression_parts.result (expression_pattern c.args.text.now) (with_expression (host_expression c.in-Some.host_part.now) (behind_slash (Some c.in-Some.path.now)))
    (expression_slash c.args.text.now c.in-Some.host_part.now c.in-Some.path.now c.in-Some.ensures)
    c.read_expression_parts.ensures.refused

pub returns-in-None-clause-pattern : goal.returns-in-None-clause-pattern
returns-in-None-clause-pattern c =
    handed_ok c.read_expression_parts-in-None.result (expression_pattern c.args.text.now) (with_expression (host_expression c.args.text.now) (behind_slash None))
    (expression_no_slash c.args.text.now c.in-None.ensures)
    c.read_expression_parts-in-None.ensures.pattern

pub returns-in-None-clause-refused : goal.returns-in-None-clause-refused
returns-in-None-clause-refused c =
    handed_refusal c.read_expression_parts-in-None.result (expression_pattern c.args.text.now) (with_expression (host_expression c.args.text.now) (behind_slash None))
    (expression_no_slash c.args.text.now c.in-None.ensures)
    c.read_expression_parts-in-None.ensures.refused
