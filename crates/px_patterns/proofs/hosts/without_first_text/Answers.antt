use Rattle.std.proofs.Common.{◌+◌, ◌∙◌, sym, subst, arith, take, length, Some}
use Rattle.std.proofs.lemmas.Bool.{both_ways}
use Rattle.std.proofs.lemmas.List.{take_rest}
use Rattle.px_patterns.specs.declared.labels.LabelPattern.TheVariants.{Plain}
use Rattle.px_patterns.specs.Hosts.{HasFirstLabel, is_label}
use Rattle.px_patterns.proofs.EndLabelLemmas.{has_first, has_first_alone, lacks_first}
use Rattle.px_patterns.proofs.hosts.without_first_text.Goals as goal

pub returns-then-bytes-end : goal.returns-then-bytes-end
returns-then-bytes-end c = lacks_first c.args.text.now c.args.bytes.now (λ within is. absurd (omega (arith, c.if-bytes-end.true, within)))

pub returns-then-not-is_label : goal.returns-then-not-is_label
returns-then-not-is_label c =
    lacks_first c.args.text.now c.args.bytes.now
    (λ within is. absurd (both_ways (is_label c.args.text.now (take (length c.args.text.now) c.args.bytes.now)) (sym c.is_label.ensures ∙ c.if-not-is_label.true) is))

pub returns-then-bytes-end-2 : goal.returns-then-bytes-end-2
returns-then-bytes-end-2 c = has_first_alone c.args.text.now c.args.bytes.now c.if-bytes-end-2.true (sym c.is_label.ensures ∙ c.if-not-is_label.false)

pub returns-then-behind-ne-DOT : goal.returns-then-behind-ne-DOT
returns-then-behind-ne-DOT c = lacks_first c.args.text.now c.args.bytes.now (λ within is. (c.if-bytes-end-2.false, c.if-behind-ne-DOT.true))

pub returns : goal.returns
returns c =
    subst (λ l. HasFirstLabel (Plain c.args.text.now) c.args.bytes.now (Some l)) (sym (take_rest c.args.bytes.now (length c.args.text.now + 1)))
    (has_first c.args.text.now c.args.bytes.now (omega (arith, c.if-bytes-end.false, c.if-bytes-end-2.false)) c.if-behind-ne-DOT.false (sym c.is_label.ensures ∙ c.if-not-is_label.false))
