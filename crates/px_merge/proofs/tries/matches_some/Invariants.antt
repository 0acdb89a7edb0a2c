use Rattle.std.proofs.Common.{◌≡◌, length}
use Rattle.px_merge.specs.Merging.{matches_some}
use Rattle.px_merge.proofs.tries.matches_some.Given as goal

abbrev pub invariant-tags : goal.invariant-tags
invariant-tags l = record {
  same : l.kept ≡ l.initial.kept;
  rest : matches_some l.pattern l.rest ≡ matches_some l.pattern l.tags;
}

abbrev pub decreases-tags : goal.decreases-tags
decreases-tags l = length l.rest
