use Rattle.std.proofs.Common.{sym}
use Rattle.px_subst.proofs.ExpressionLemmas.{no_expression}
use Rattle.px_subst.proofs.expressions.build.Goals as goal

pub returns-in-None : goal.returns-in-None
returns-in-None c = no_expression c.args.flags c.args.pattern.now (sym (rw c.in-None.is at c.as_text.ensures.utf8))
