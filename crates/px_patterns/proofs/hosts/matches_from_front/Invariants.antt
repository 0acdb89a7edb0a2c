use Rattle.std.proofs.Common.{◌≡◌, drop}
use Rattle.px_patterns.specs.Hosts.{labels_in, labels_match}
use Rattle.px_patterns.proofs.hosts.matches_from_front.Given as goal

abbrev pub invariant-loop-at : goal.invariant-loop-at
invariant-loop-at l = labels_match l.open_end l.patterns (labels_in l.host) ≡ labels_match l.open_end (drop l.at l.patterns) (labels_in l.rest)
