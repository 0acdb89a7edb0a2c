use Rattle.std.proofs.Common.{◌∙◌, sym, ap, arith, length, Some}
use Rattle.std.proofs.lemmas.List.{take_rest}
use Rattle.px_patterns.proofs.GlobLemmas.{behind_end, behind_here, behind_later}
use Rattle.px_patterns.proofs.labels.behind_first.Goals as goal

pub returns-then-takes_front : goal.returns-then-takes_front
returns-then-takes_front c =
    ap (λ l. Some l) (take_rest c.places.rest.now (length c.args.items.now))
    ∙ sym (c.places.invariant ∙ behind_here c.args.items.now c.places.rest.now (sym c.takes_front.ensures.value ∙ c.if-takes_front.true))

pub returns-then-rest-items : goal.returns-then-rest-items
returns-then-rest-items c =
    sym (c.places.invariant ∙ behind_end c.args.items.now c.places.rest.now (sym c.takes_front.ensures.value ∙ c.if-takes_front.false) c.if-rest-items.true)

pub places-preserved : goal.places-preserved
places-preserved c =
    c.places.invariant
    ∙ behind_later c.args.items.now c.places.rest.now (sym c.takes_front.ensures.value ∙ c.if-takes_front.false) (λ none. absurd (omega (arith, none, c.if-rest-items.false)))
