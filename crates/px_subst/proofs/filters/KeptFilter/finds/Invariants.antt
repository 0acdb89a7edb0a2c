use Rattle.std.proofs.Common.{◌≡◌, fold, take}
use Rattle.px_subst.specs.Jobs.{run_next, unchanged}
use Rattle.px_subst.proofs.filters.KeptFilter.finds.Given as goal

abbrev pub invariant-jobs : goal.invariant-jobs
invariant-jobs l =
    (fold (run_next l.vars) (unchanged l.text) (take l.index l.self-inside.jobs.items) ≡ unchanged l.text)
    × (l.self-inside.jobs.items ≡ l.initial.self-inside.jobs.items)
