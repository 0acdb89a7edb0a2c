use Rattle.std.proofs.Common.{rules, arith, ◌+◌, ◌-◌, ◌≤◌, ◌∙◌, List, ℕ, ap, sym, length}
use Rattle.std.specs.List.{starts_with}
use Rattle.std.specs.Prelude.{codes, nat_eq}
use Rattle.px_headers.proofs.SchemeLemmas.{first_here, first_later, from-place}
use Rattle.px_headers.proofs.referrers.scheme_end.Goals as goal

pub returns-then-starts_with-clause-value : goal.returns-then-starts_with-clause-value
returns-then-starts_with-clause-value c =
    let fits : c.loop-at.at + 3 ≤ length c.args.text.now = search rules in
    let slice = ap (λ (rest : List ℕ). starts_with nat_eq rest (codes "://")) (from-place c.args.text.now c.loop-at.at) in
    sym
    (c.loop-at.invariant
    ∙ first_here c.args.text.now (codes "://") c.loop-at.at _ (length c.args.text.now - c.loop-at.at) (omega arith) fits (sym slice ∙ sym c.if-starts_with.ensures.value))

pub loop-at-preserved : goal.loop-at-preserved
loop-at-preserved c =
    let slice = ap (λ (rest : List ℕ). starts_with nat_eq rest (codes "://")) (from-place c.args.text.now c.loop-at.at) in
    c.loop-at.invariant
    ∙ first_later c.args.text.now (codes "://") c.loop-at.at _ (length c.args.text.now + 1 - (c.loop-at.at + 1)) (omega arith) (sym slice ∙ sym c.if-starts_with.ensures.value)
