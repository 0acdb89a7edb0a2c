use Rattle.std.proofs.Common.{◌≡◌, ◌+◌, ◌-◌, ◌&&◌, ◌∙◌, sym, ap, subst, arith, true, false, drop, length, slice_index}
use Rattle.px_patterns.specs.Hosts.{is_in_label, is_label}
use Rattle.px_patterns.proofs.EndLabelLemmas.{label_at, label_fails, label_past}
use Rattle.px_patterns.proofs.hosts.is_label.Goals as goal

pub bytes-init : goal.bytes-init
bytes-init c = record { within = omega arith; same = label_past c.args.text.now c.args.bytes.now (length c.args.bytes.now) (omega (arith, c.requires)) (omega arith) }

pub returns-then-not-is_in_label : goal.returns-then-not-is_in_label
returns-then-not-is_in_label c =
    let at = c.bytes.end - 1 in
    let fails : is_in_label (slice_index c.args.text.now at) (slice_index c.args.bytes.now at) ≡ false = sym c.is_in_label.ensures ∙ c.if-not-is_in_label.true in
    sym
    (label_fails c.args.text.now c.args.bytes.now at
    (label_at c.args.text.now c.args.bytes.now at (omega (arith, c.requires, c.bytes-test.true, c.bytes.invariant.within)) (omega (arith, c.bytes-test.true, c.bytes.invariant.within))
    ∙ ap (λ t. t && is_label (drop (at + 1) c.args.text.now) (drop (at + 1) c.args.bytes.now)) fails))

pub bytes-preserved : goal.bytes-preserved
bytes-preserved c =
    let at = c.bytes.end - 1 in
    let holds : is_in_label (slice_index c.args.text.now at) (slice_index c.args.bytes.now at) ≡ true = sym c.is_in_label.ensures ∙ c.if-not-is_in_label.false in
    let next : c.bytes.end ≡ at + 1 = omega (arith, c.bytes-test.true) in
    record {
      within = omega (arith, c.bytes.invariant.within);
      same = label_at c.args.text.now c.args.bytes.now at (omega (arith, c.requires, c.bytes-test.true, c.bytes.invariant.within)) (omega (arith, c.bytes-test.true, c.bytes.invariant.within))
          ∙ ap (λ t. t && is_label (drop (at + 1) c.args.text.now) (drop (at + 1) c.args.bytes.now)) holds
          ∙ subst (λ n. is_label (drop n c.args.text.now) (drop n c.args.bytes.now) ≡ true) next c.bytes.invariant.same;
    }

pub returns : goal.returns
returns c =
    let front : c.bytes.end ≡ 0 = omega (arith, c.bytes-test.false) in
    sym (subst (λ n. is_label (drop n c.args.text.now) (drop n c.args.bytes.now) ≡ true) front c.bytes.invariant.same)
