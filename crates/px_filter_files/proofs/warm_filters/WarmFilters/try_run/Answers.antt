use Rattle.std.proofs.Common.{ap, ◌∙◌}
use Rattle.std.proofs.lemmas.Result.{IfOk-weaker}
use Rattle.px_subst.specs.Jobs.{run_filter}
use Rattle.px_filter_files.proofs.warm_filters.WarmFilters.try_run.Goals as goal

pub returns-in-Some-clause-value : goal.returns-in-Some-clause-value
returns-in-Some-clause-value c =
    IfOk-weaker c.try_run_at.result _ _ (λ found is. is ∙ ap (λ js. run_filter js c.args.vars.now c.args.text.now) c.in-Some.ensures.jobs) c.try_run_at.ensures.value

pub returns-in-None-clause-value : goal.returns-in-None-clause-value
unfolding run_filter
returns-in-None-clause-value c =
    ap (λ js. run_filter js c.args.vars.now c.args.text.now) c.in-None.ensures.jobs
