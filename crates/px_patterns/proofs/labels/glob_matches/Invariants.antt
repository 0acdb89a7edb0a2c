use Rattle.std.proofs.Common.{◌≡◌, ◌≤◌, drop, length}
use Rattle.px_patterns.specs.Globs.{glob_matches}
use Rattle.px_patterns.proofs.labels.glob_matches.Given as goal

abbrev pub invariant-loop-at : goal.invariant-loop-at
invariant-loop-at l = record {
  in_items : l.at ≤ length l.items;
  within : l.at ≤ length l.label;
  same : glob_matches l.items l.label ≡ glob_matches (drop l.at l.items) (drop l.at l.label);
}
