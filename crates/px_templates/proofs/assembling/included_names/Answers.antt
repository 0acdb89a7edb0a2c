use Rattle.std.proofs.Common.{◌++◌, ◌∙◌, sym, ap, append-nil, length}
use Rattle.std.proofs.lemmas.Bool.{eqb-true}
use Rattle.px_templates.proofs.LineLemmas.{included_names-nil}
use Rattle.px_templates.proofs.assembling.included_names.Goals as goal

pub returns : goal.returns
returns c =
    let none = included_names-nil c.lines.rest.now (eqb-true (length c.lines.rest.now) 0 (sym c.is_empty.ensures ∙ c.lines-test.false)) in
    c.from_vec.ensures ∙ sym (c.lines.invariant ∙ ap (λ l. c.lines.names.items ++ l) none ∙ append-nil c.lines.names.items)
