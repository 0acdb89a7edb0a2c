use Rattle.std.proofs.Common.{◌≡◌, ◌<◌, IfSome, fold, take, unwrap_or}
use Rattle.px_subst.specs.Jobs.{run_next, unchanged}
use Rattle.px_subst.proofs.filters.KeptFilter.try_run.Given as goal

abbrev pub invariant-jobs : goal.invariant-jobs
invariant-jobs l =
    (unwrap_or l.done (unchanged l.text) ≡ fold (run_next l.vars) (unchanged l.text) (take l.index l.self-inside.jobs.items))
    × IfSome l.done (λ outcome. 0 < outcome.hits) × (l.self-inside.jobs.items ≡ l.initial.self-inside.jobs.items)
