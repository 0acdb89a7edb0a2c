use Rattle.std.proofs.Common.{◌≡◌, ◌+◌, ◌≤◌, length}
use Rattle.px_actions.specs.Braces.{counted_text, closes_all, balances}
use Rattle.px_actions.proofs.braces.balances.Given as goal

abbrev pub invariant-bytes : goal.invariant-bytes
invariant-bytes l = record {
  same : closes_all l.braces.open (counted_text l.braces.behind l.rest) ≡ balances l.text;
  room : l.braces.open + length l.rest ≤ length l.text;
}

abbrev pub decreases-bytes : goal.decreases-bytes
decreases-bytes l = length l.rest
