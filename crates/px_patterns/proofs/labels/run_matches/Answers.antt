use Rattle.std.proofs.Common.{◌∙◌, ◌-◌, sym, ap, length}
use Rattle.std.proofs.lemmas.Bool.{lt-leb}
use Rattle.std.proofs.lemmas.List.{take_rest}
use Rattle.px_patterns.specs.Runs.{takes_front}
use Rattle.px_patterns.proofs.GlobLemmas.{last_of_run, run_first, run_none, too_few_of_run}
use Rattle.px_patterns.proofs.labels.run_matches.Goals as goal

pub returns-then-front-label : goal.returns-then-front-label
returns-then-front-label c =
    c.takes_front.ensures.value
    ∙ ap (takes_front c.cut_at_run.result.0.now) (take_rest c.runs.label.now (length c.runs.label.now - length c.cut_at_run.result.0.now))
    ∙ last_of_run c.runs.items.now c.cut_at_run.result.0.now c.runs.label.now (rw c.in-None.is at c.cut_at_run.ensures.cut) c.cut_at_run.ensures.fixed c.if-front-label.true
    ∙ sym c.runs.invariant

pub returns-else-front-label : goal.returns-else-front-label
returns-else-front-label c =
    lt-leb (length c.cut_at_run.result.0.now) (length c.runs.label.now) c.if-front-label.false
    ∙ too_few_of_run c.runs.items.now c.cut_at_run.result.0.now c.runs.label.now (rw c.in-None.is at c.cut_at_run.ensures.cut) c.cut_at_run.ensures.fixed c.if-front-label.false
    ∙ sym c.runs.invariant

pub returns-in-None-behind_first : goal.returns-in-None-behind_first
returns-in-None-behind_first c =
    sym
    (c.runs.invariant
    ∙ run_none c.runs.items.now c.cut_at_run.result.0.now c.in-Some.more.now c.runs.label.now (rw c.in-Some.is at c.cut_at_run.ensures.cut) c.cut_at_run.ensures.fixed
    (sym c.in-None-behind_first.ensures))

pub runs-preserved : goal.runs-preserved
runs-preserved c =
    c.runs.invariant
    ∙ run_first c.runs.items.now c.cut_at_run.result.0.now c.in-Some.more.now c.runs.label.now c.in-Some-behind_first.rest.now (rw c.in-Some.is at c.cut_at_run.ensures.cut)
    c.cut_at_run.ensures.fixed (sym c.in-Some-behind_first.ensures)
