use Rattle.std.proofs.Common.{◌≡◌, ◌∷◌, suc, Some, ap, subst, arith}
use Rattle.std.proofs.lemmas.Grind.{common_steps}
use Rattle.px_merge.specs.Indexes.{PlainPass}
use Rattle.px_merge.proofs.labels.rarest.Goals as goal

pub labels-init : goal.labels-init
labels-init c = λ test first pass. (first, pass)

pub labels-preserved : goal.labels-preserved
labels-preserved c = λ test first pass.
    let cut : c.labels.rest.now ≡ c.in-Some.label.now ∷ c.in-Some.others.now = grind (arith, common_steps) in
    let here : PlainPass test (c.in-Some.label.now ∷ c.in-Some.others.now) = subst (PlainPass test) cut (c.labels.invariant test first pass).1 in
    (c.rarer-best.ensures test (c.labels.invariant test first pass).0 (λ text is. here 0 text (ap (λ l. Some l) is)), λ at text stands. here (suc at) text stands)

pub returns : goal.returns
returns c = λ test first pass. (c.labels.invariant test first pass).0
