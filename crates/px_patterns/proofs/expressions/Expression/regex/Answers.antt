use Rattle.std.proofs.Common.{ap, subst, sym, ◌∙◌}
use Rattle.px_patterns.specs.Searches.{IsSearch, SearchesFor, searched_text}
use Rattle.px_patterns.proofs.ExpressionLemmas.{searches_as_built}
use Rattle.px_patterns.proofs.expressions.Expression.regex.Goals as goal

pub returns-in-Built : goal.returns-in-Built
returns-in-Built c =
    subst (SearchesFor c.args.self.now) (sym c.deref.ensures)
    (searches_as_built c.args.self.now c.in-Built.regex.value (subst IsSearch c.in-Built.is c.self.invariant) (ap searched_text (sym c.in-Built.is) ∙ c.self.view_is))
