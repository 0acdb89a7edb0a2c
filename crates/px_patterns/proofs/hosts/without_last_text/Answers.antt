use Rattle.std.proofs.Common.{◌≡◌, ◌+◌, ◌-◌, ◌∙◌, sym, ap, subst, arith, false, drop, length, slice_index}
use Rattle.std.proofs.lemmas.Bool.{both_ways}
use Rattle.std.proofs.lemmas.List.{take_rest}
use Rattle.px_patterns.specs.declared.TheConstants.{DOT}
use Rattle.px_patterns.specs.Hosts.{is_label}
use Rattle.px_patterns.proofs.EndLabelLemmas.{has_last, has_last_alone, lacks_last}
use Rattle.px_patterns.proofs.hosts.without_last_text.Goals as goal

pub returns-then-bytes-text : goal.returns-then-bytes-text
returns-then-bytes-text c = lacks_last c.args.text.now c.args.bytes.now (λ start whole is. absurd (omega (arith, c.if-bytes-text.true, whole)))

pub returns-then-not-is_label : goal.returns-then-not-is_label
returns-then-not-is_label c =
    lacks_last c.args.text.now c.args.bytes.now
    (λ start whole is.
    let here : length c.args.bytes.now - length c.args.text.now ≡ start = omega (arith, whole) in
    let fails : is_label c.args.text.now (drop (length c.args.bytes.now - length c.args.text.now) c.args.bytes.now) ≡ false =
    ap (is_label c.args.text.now) (sym (take_rest c.args.bytes.now (length c.args.bytes.now - length c.args.text.now))) ∙ (sym c.is_label.ensures ∙ c.if-not-is_label.true) in
    absurd (both_ways (is_label c.args.text.now (drop start c.args.bytes.now)) (subst (λ n. is_label c.args.text.now (drop n c.args.bytes.now) ≡ false) here fails) is))

pub returns-then-start-eq0 : goal.returns-then-start-eq0
returns-then-start-eq0 c =
    has_last_alone c.args.text.now c.args.bytes.now
    (ap (λ n. is_label c.args.text.now (drop n c.args.bytes.now)) (sym c.if-start-eq0.true)
    ∙ (ap (is_label c.args.text.now) (sym (take_rest c.args.bytes.now (length c.args.bytes.now - length c.args.text.now))) ∙ (sym c.is_label.ensures ∙ c.if-not-is_label.false)))

pub returns-then-before-ne-DOT : goal.returns-then-before-ne-DOT
returns-then-before-ne-DOT c =
    lacks_last c.args.text.now c.args.bytes.now
    (λ start whole is.
    let here : length c.args.bytes.now - length c.args.text.now ≡ start = omega (arith, whole) in
    (λ none. c.if-start-eq0.false (here ∙ none), subst (λ n. slice_index c.args.bytes.now (n - 1) ≡ DOT → ⊥) here c.if-before-ne-DOT.true))

pub returns : goal.returns
returns c =
    let start : length c.args.bytes.now - length c.args.text.now - 1 + 1 ≡ length c.args.bytes.now - length c.args.text.now = omega (arith, c.if-start-eq0.false) in
    has_last c.args.text.now c.args.bytes.now (length c.args.bytes.now - length c.args.text.now - 1) (omega (arith, c.if-start-eq0.false)) c.if-before-ne-DOT.false
    (ap (λ n. is_label c.args.text.now (drop n c.args.bytes.now)) start
    ∙ (ap (is_label c.args.text.now) (sym (take_rest c.args.bytes.now (length c.args.bytes.now - length c.args.text.now))) ∙ (sym c.is_label.ensures ∙ c.if-not-is_label.false)))
