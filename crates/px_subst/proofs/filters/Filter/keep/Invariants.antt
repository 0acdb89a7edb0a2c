use Rattle.std.proofs.Common.{◌≡◌, take}
use Rattle.px_subst.proofs.filters.Filter.keep.Given as goal

abbrev pub invariant-jobs : goal.invariant-jobs
invariant-jobs l = l.jobs.items ≡ take l.job-index l.lent
