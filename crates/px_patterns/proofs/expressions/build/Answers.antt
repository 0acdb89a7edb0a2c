use Rattle.std.proofs.Common.{ap, ◌∙◌}
use Rattle.regex.specs.declared.builder.RegexBuilder.{RegexBuilder}
use Rattle.px_patterns.proofs.ExpressionLemmas.{options_of, refusal_of, unread_from_refuses}
use Rattle.px_patterns.proofs.expressions.build.Goals as goal

pub returns-in-Err-Syntax-clause-refused : goal.returns-in-Err-Syntax-clause-refused
returns-in-Err-Syntax-clause-refused c =
    let kind = rw c.in-Err-Syntax.field-0-is at c.in-Err-Syntax.ensures.kind in
    refusal_of c.args.text.now
    (unread_from_refuses c.args.text.now _ _ c.in-Err-Syntax.field-0-0.kind (options_of c.new.result c.case_insensitive.result c.new.ensures.config c.case_insensitive.ensures)
    (ap (λ (b : RegexBuilder). b.source.now) c.case_insensitive.ensures ∙ c.new.ensures.source) kind (c.in-Err-Syntax.ensures.refused _ c.in-Err-Syntax.field-0-is))
