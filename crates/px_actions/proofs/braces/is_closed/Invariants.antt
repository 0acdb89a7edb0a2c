use Rattle.std.proofs.Common.{◌≡◌, ◌+◌, ◌≤◌, ◌<◌, length}
use Rattle.px_actions.specs.Braces.{counted_text, closes_at_end, is_closed}
use Rattle.px_actions.proofs.braces.is_closed.Given as goal

abbrev pub invariant-bytes : goal.invariant-bytes
invariant-bytes l = record {
  same : closes_at_end l.braces.open (counted_text l.braces.behind l.rest) ≡ is_closed l.text;
  room : l.braces.open + length l.rest ≤ length l.text + 1;
  some : 0 < l.braces.open;
}

abbrev pub decreases-bytes : goal.decreases-bytes
decreases-bytes l = length l.rest
