use Rattle.std.proofs.Common.{◌≡◌, ◌≤◌, false, drop, length}
use Rattle.std.specs.List.{list_any}
use Rattle.px_patterns.proofs.EndLabelLemmas.{is_dot}
use Rattle.px_patterns.proofs.hosts.cut_last.Given as goal

abbrev pub invariant-bytes : goal.invariant-bytes
invariant-bytes l = record {
  within : l.start ≤ length l.bytes;
  none : list_any is_dot (drop l.start l.bytes) ≡ false;
}

abbrev pub decreases-bytes : goal.decreases-bytes
decreases-bytes l = l.start
