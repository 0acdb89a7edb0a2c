use Rattle.std.proofs.Common.{◌≡◌, false, take}
use Rattle.std.specs.List.{list_any}
use Rattle.px_patterns.proofs.EndLabelLemmas.{is_dot}
use Rattle.px_patterns.proofs.hosts.first_label.Given as goal

abbrev pub invariant-loop-at : goal.invariant-loop-at
invariant-loop-at l = list_any is_dot (take l.at l.bytes) ≡ false
