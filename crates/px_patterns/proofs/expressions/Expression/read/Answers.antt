use Rattle.std.proofs.Common.{ap, ◌∙◌}
use Rattle.px_patterns.specs.Expressions.{expression_of}
use Rattle.px_patterns.proofs.ExpressionLemmas.{reads_as_built}
use Rattle.px_patterns.proofs.SlashLemmas.{slash_is_read}
use Rattle.px_patterns.proofs.expressions.Expression.read.Goals as goal

pub returns-then-is_first_slash-clause-text : goal.returns-then-is_first_slash-clause-text
returns-then-is_first_slash-clause-text c = ap expression_of (c.is_first_slash.ensures.0 c.if-is_first_slash.true) ∙ slash_is_read

pub returns-clause-text : goal.returns-clause-text
returns-clause-text c = reads_as_built c.args.text.now c.in_ok-regex.regex.value c.in_ok-regex.ensures.built
