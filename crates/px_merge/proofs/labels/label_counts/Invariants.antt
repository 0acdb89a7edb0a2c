use Rattle.std.proofs.Common.{◌≡◌, length}
use Rattle.px_merge.proofs.labels.label_counts.Given as goal

abbrev pub invariant-sections : goal.invariant-sections
invariant-sections l = length l.counts.items ≡ l.count
