use Rattle.std.proofs.Common.{◌∙◌, sym, refl}
use Rattle.std.specs.Prelude.{option_copied}
use Rattle.px_patterns.proofs.ReadingLemmas.{empty_here, empty_later}
use Rattle.px_patterns.proofs.host_readings.has_empty_label.Goals as goal

pub returns-then-is_empty : goal.returns-then-is_empty
returns-then-is_empty c =
    sym (c.labels.invariant ∙ empty_here c.labels.rest.now c.cut.result.0.now (option_copied c.cut.result.1) c.cut.ensures.parts (sym c.is_empty.ensures ∙ c.if-is_empty.true))

pub returns-in-None : goal.returns-in-None
returns-in-None c =
    sym (c.labels.invariant ∙ empty_later c.labels.rest.now c.cut.result.0.now (option_copied c.cut.result.1) c.cut.ensures.parts (sym c.is_empty.ensures ∙ c.if-is_empty.false) ∙ rw c.in-None.is refl)

pub labels-preserved : goal.labels-preserved
labels-preserved c =
    c.labels.invariant ∙ empty_later c.labels.rest.now c.cut.result.0.now (option_copied c.cut.result.1) c.cut.ensures.parts (sym c.is_empty.ensures ∙ c.if-is_empty.false) ∙ rw c.in-Some.is refl
