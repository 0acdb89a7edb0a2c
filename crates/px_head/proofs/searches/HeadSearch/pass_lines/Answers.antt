use Rattle.std.proofs.Common.{◌∙◌, refl, ap, sym}
use Rattle.std.proofs.lemmas.List.{take_rest}
use Rattle.px_head.specs.Blocks.{is_empty_line}
use Rattle.px_head.proofs.SearchLemmas.{next-line, looks-at-all, no-block, ends-block, passes-full, passes-empty}
use Rattle.px_head.proofs.searches.HeadSearch.pass_lines.Goals as goal

pub returns-in-None-clause-value : goal.returns-in-None-clause-value
returns-in-None-clause-value c =
    sym (no-block _ _ (looks-at-all _ _ c.lines.invariant (rw take_rest at c.in-None.ensures)) refl)

pub returns-in-None-clause-passed : goal.returns-in-None-clause-passed
returns-in-None-clause-passed c = looks-at-all _ _ c.lines.invariant (rw take_rest at c.in-None.ensures)

pub returns-then-self-clause-value : goal.returns-then-self-clause-value
returns-then-self-clause-value c =
    let next = next-line _ _ _ c.lines.invariant (rw take_rest at c.in-Some.ensures) in
    sym (ends-block _ _ _ next c.if-self.true (ap is_empty_line (sym next.slice) ∙ sym c.if-not-is_empty.ensures))

pub lines-preserved-then-not-is_empty : goal.lines-preserved-then-not-is_empty
lines-preserved-then-not-is_empty c =
    let next = next-line _ _ _ c.lines.invariant (rw take_rest at c.in-Some.ensures) in
    passes-full _ _ _ next (ap is_empty_line (sym next.slice) ∙ sym c.if-not-is_empty.ensures)

pub lines-preserved : goal.lines-preserved
lines-preserved c =
    let next = next-line _ _ _ c.lines.invariant (rw take_rest at c.in-Some.ensures) in
    passes-empty _ _ _ next c.if-self.false (ap is_empty_line (sym next.slice) ∙ sym c.if-not-is_empty.ensures)
