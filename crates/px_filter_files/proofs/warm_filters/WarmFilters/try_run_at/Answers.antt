use Rattle.std.proofs.Common.{ap, ◌∙◌}
use Rattle.std.proofs.lemmas.Result.{IfOk-weaker}
use Rattle.px_subst.specs.Jobs.{run_filter}
use Rattle.px_filter_files.proofs.FindLemmas.{jobs_here}
use Rattle.px_filter_files.proofs.warm_filters.WarmFilters.try_run_at.Goals as goal

pub returns-clause-value : goal.returns-clause-value
returns-clause-value c =
    let jobs = jobs_here _ _ c.args.self.now c.args.at c.index-as_slice-at.result c.as_slice.ensures c.self.view_is c.requires in
    IfOk-weaker c.run_kept.result _ _ (λ found is. is ∙ ap (λ js. run_filter js c.args.vars.now c.args.text.now) jobs) c.run_kept.ensures.value
