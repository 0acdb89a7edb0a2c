use Rattle.std.proofs.Common.{◌≡◌, ◌++◌, map}
use Rattle.std.specs.Prelude.{option_copied}
use Rattle.px_base.specs.Cuts.{parts_of}
use Rattle.px_patterns.specs.Hosts.{labels_in}
use Rattle.px_merge.specs.Keys.{slot_number}
use Rattle.px_merge.specs.declared.hosts.TheConstants.{DOT}
use Rattle.px_merge.proofs.HostLemmas.{rest_length}
use Rattle.px_merge.proofs.hosts.add_labels.Given as goal

abbrev pub invariant-labels : goal.invariant-labels
invariant-labels l = l.numbers.items ++ map (slot_number l.count) (parts_of DOT (option_copied l.rest))
    ≡ l.initial.numbers.items ++ map (slot_number l.count) (labels_in l.host)

abbrev pub decreases-labels : goal.decreases-labels
decreases-labels l = rest_length (option_copied l.rest)
