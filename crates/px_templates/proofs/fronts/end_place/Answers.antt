use Rattle.std.proofs.lemmas.List.{take_rest}
use Rattle.px_templates.proofs.PieceLemmas.{end_found, end_not_found, end_nowhere}
use Rattle.px_templates.proofs.fronts.end_place.Goals as goal

pub returns-then-starts_with-clause-place : goal.returns-then-starts_with-clause-place
returns-then-starts_with-clause-place c =
    end_found c.args.condition c.args.text.now _ _ c.loop-at.at _ c.loop-at-test.true (take_rest c.args.text.now c.loop-at.at) c.end.ensures
    c.starts_with.ensures.value c.if-starts_with.true c.loop-at.invariant

pub loop-at-preserved : goal.loop-at-preserved
loop-at-preserved c =
    end_not_found c.args.condition c.args.text.now _ _ c.loop-at.at _ c.loop-at-test.true (take_rest c.args.text.now c.loop-at.at) c.end.ensures
    c.starts_with.ensures.value c.if-starts_with.false c.loop-at.invariant

pub returns-clause-place : goal.returns-clause-place
returns-clause-place c = end_nowhere c.args.condition c.args.text.now c.loop-at.at c.loop-at-test.false c.loop-at.invariant
