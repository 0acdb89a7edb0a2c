use Rattle.std.proofs.Common.{◌<◌, ap, subst, sym, ◌∙◌}
use Rattle.std.proofs.lemmas.Result.{IfOk-weaker}
use Rattle.px_subst.specs.Jobs.{run_filter}
use Rattle.px_filter_files.proofs.FindLemmas.{jobs_here}
use Rattle.px_filter_files.proofs.warm_filters.WarmFilters.finds_at.Goals as goal

pub returns-clause-miss : goal.returns-clause-miss
returns-clause-miss c =
    let jobs = jobs_here _ _ c.args.self.now c.args.at c.index-as_slice-at.result c.as_slice.ensures c.self.view_is c.requires in
    IfOk-weaker c.finds_kept.result _ _ (λ found is missing. sym (ap (λ js. run_filter js c.args.vars.now c.args.text.now) jobs) ∙ is missing) c.finds_kept.ensures.miss

pub returns-clause-hit : goal.returns-clause-hit
returns-clause-hit c =
    let jobs = jobs_here _ _ c.args.self.now c.args.at c.index-as_slice-at.result c.as_slice.ensures c.self.view_is c.requires in
    IfOk-weaker c.finds_kept.result _ _ (λ found is there. subst (λ js. 0 < (run_filter js c.args.vars.now c.args.text.now).hits) jobs (is there)) c.finds_kept.ensures.hit
