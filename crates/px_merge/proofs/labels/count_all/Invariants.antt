use Rattle.std.proofs.Common.{◌≡◌, length}
use Rattle.px_merge.proofs.labels.count_all.Given as goal

abbrev pub invariant-patterns : goal.invariant-patterns
invariant-patterns l = length l.counts.items ≡ length l.initial.counts.items
