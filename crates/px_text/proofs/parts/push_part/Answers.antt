use Rattle.std.proofs.Common.{◌++◌, ◌∙◌, ◌-◌, sym, ap, inl, inr, arith, length, take, drop}
use Rattle.px_text.specs.declared.TheConstants.{HASH}
use Rattle.px_text.proofs.PartLemmas.{added_twice, clean, comment_at, escaped_at, plain_line}
use Rattle.px_text.proofs.parts.push_part.Goals as goal
use Rattle.px_text.proofs.parts.push_part.Goals.{then-at-eq0-via-then-at-eq0, then-at-eq0-via-else-at-eq0+then-rest-at-ne-BACKSLASH}

pub returns-then-at-eq0 : goal.returns-then-at-eq0
returns-then-at-eq0 c =
    c.in_ok-push_all.ensures.ok
    ∙ ap (λ l. c.loop-at.joined ++ l)
    (c.split_at.ensures.front ∙ sym (comment_at c.loop-at.rest.now c.in-Some.at c.in-Some.ensures.0.high c.in-Some.ensures.1 c.in-Some.ensures.0.before
    (elim c.then-at-eq0.branch [ then-at-eq0-via-then-at-eq0 w ↦ inl w.if-at-eq0.true | then-at-eq0-via-else-at-eq0+then-rest-at-ne-BACKSLASH w ↦ inr w.if-rest-at-ne-BACKSLASH.true ])))
    ∙ sym c.loop-at.invariant

pub loop-at-preserved : goal.loop-at-preserved
loop-at-preserved c =
    c.loop-at.invariant
    ∙ ap (λ l. c.loop-at.joined ++ l) (escaped_at c.loop-at.rest.now c.split_at.result.1.now c.in-Some.at (omega arith) c.in-Some.ensures.0.high c.in-Some.ensures.1 c.in-Some.ensures.0.before c.if-rest-at-ne-BACKSLASH.false c.split_at.ensures.back)
    ∙ added_twice c.loop-at.joined (take (c.in-Some.at - 1) c.loop-at.rest.now) (clean 0 (take (length c.split_at.result.1.now - 1) (drop 1 c.split_at.result.1.now))) c.push_all-in-Some.new.self c.push.new.self HASH c.in_ok-push_all-2.ensures.ok c.in_ok-push.ensures.ok

pub returns : goal.returns
returns c = c.in_ok-push_all-3.ensures.ok ∙ ap (λ l. c.loop-at.joined ++ l) (sym (plain_line c.loop-at.rest.now c.in_default.ensures)) ∙ sym c.loop-at.invariant
