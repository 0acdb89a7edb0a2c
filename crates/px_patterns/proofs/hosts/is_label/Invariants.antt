use Rattle.std.proofs.Common.{◌≡◌, ◌≤◌, true, drop, length}
use Rattle.px_patterns.specs.Hosts.{is_label}
use Rattle.px_patterns.proofs.hosts.is_label.Given as goal

abbrev pub invariant-bytes : goal.invariant-bytes
invariant-bytes l = record {
  within : l.end ≤ length l.bytes;
  same : is_label (drop l.end l.text) (drop l.end l.bytes) ≡ true;
}

abbrev pub decreases-bytes : goal.decreases-bytes
decreases-bytes l = l.end
