use Rattle.std.proofs.Common.{◌≡◌, length}
use Rattle.px_actions.specs.Sets.{updated_all}
use Rattle.px_merge.specs.Merging.{listed_updates}
use Rattle.px_merge.proofs.host_lists.apply_lists.Given as goal

abbrev pub invariant-lists : goal.invariant-lists
invariant-lists l = updated_all l.set (listed_updates l.rest l.host) ≡ updated_all l.initial.set (listed_updates l.lists l.host)

abbrev pub decreases-lists : goal.decreases-lists
decreases-lists l = length l.rest
