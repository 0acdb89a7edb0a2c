use Rattle.std.proofs.Common.{◌≤◌, arith, fold, length, ap, ◌∙◌}
use Rattle.std.proofs.lemmas.List.{take_all}
use Rattle.px_subst.specs.Jobs.{run_filter, run_next, unchanged}
use Rattle.px_subst.proofs.filters.KeptFilter.try_run.Goals as goal

pub returns-clause-value : goal.returns-clause-value
unfolding run_filter
returns-clause-value c =
    let items = c.jobs.self-inside.jobs.items in
    let all : length items ≤ c.jobs.index = omega (arith, c.jobs-test.false, c.len-index-end.ensures, ap length c.jobs.invariant.2) in
    let jobs = take_all c.jobs.index items all ∙ c.jobs.invariant.2 ∙ c.self.view_is in
    c.jobs.invariant.0 ∙ ap (fold (run_next c.args.vars.now) (unchanged c.args.text.now)) jobs
