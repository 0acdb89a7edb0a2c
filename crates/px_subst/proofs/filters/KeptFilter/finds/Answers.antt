use Rattle.std.proofs.Common.{◌<◌, ◌≤◌, arith, fold, length, ap, subst, sym, ◌∙◌}
use Rattle.std.proofs.lemmas.List.{take_all}
use Rattle.px_subst.specs.Jobs.{run_filter, run_next, unchanged}
use Rattle.px_subst.proofs.FindsLemmas.{one_hits}
use Rattle.px_subst.proofs.filters.KeptFilter.finds.Goals as goal

pub returns-then-branch-clause-hit : goal.returns-then-branch-clause-hit
returns-then-branch-clause-hit c = λ _.
    let vars = c.args.vars.now in
    let text = c.args.text.now in
    let items = c.jobs.self-inside.jobs.items in
    let within : c.jobs.index < length items = omega (arith, c.jobs-test.true, c.len-index-end.ensures, ap length c.jobs.invariant.1) in
    subst (λ js. 0 < (run_filter js vars text).hits) (c.jobs.invariant.1 ∙ c.self.view_is)
    (one_hits vars text items c.jobs.index c.index_mut.result.now within c.index_mut.ensures.value c.jobs.invariant.0
    (c.in_ok-finds.ensures.hit c.if-branch.true))

pub returns-clause-miss : goal.returns-clause-miss
unfolding run_filter
returns-clause-miss c = λ _.
    let items = c.jobs.self-inside.jobs.items in
    let all : length items ≤ c.jobs.index = omega (arith, c.jobs-test.false, c.len-index-end.ensures, ap length c.jobs.invariant.1) in
    let jobs = take_all c.jobs.index items all ∙ c.jobs.invariant.1 ∙ c.self.view_is in
    sym (ap (fold (run_next c.args.vars.now) (unchanged c.args.text.now)) jobs) ∙ c.jobs.invariant.0
