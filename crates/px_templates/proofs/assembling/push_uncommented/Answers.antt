use Rattle.std.proofs.Common.{◌++◌, ◌∙◌, sym, ap, append-nil, length}
use Rattle.std.proofs.lemmas.Bool.{eqb-true}
use Rattle.px_templates.proofs.LineLemmas.{without_comments-nil}
use Rattle.px_templates.proofs.assembling.push_uncommented.Goals as goal

pub returns : goal.returns
returns c =
    let none = without_comments-nil c.lines.rest.now (eqb-true (length c.lines.rest.now) 0 (sym c.is_empty.ensures ∙ c.lines-test.false)) in
    sym (c.lines.invariant ∙ ap (λ l. c.lines.out ++ l) none ∙ append-nil c.lines.out)
