use Rattle.std.proofs.Common.{◌≡◌, length}
use Rattle.px_merge.proofs.labels.count_labels.Given as goal

abbrev pub invariant-labels : goal.invariant-labels
invariant-labels l = length l.counts.items ≡ length l.initial.counts.items
