use Rattle.std.proofs.Common.{◌≡◌, ◌≤◌, length}
use Rattle.px_base.specs.Blanks.{trim_front}
use Rattle.px_actions.proofs.braces.without_front.Given as goal

abbrev pub invariant-blanks : goal.invariant-blanks
invariant-blanks l = record {
  same : trim_front l.rest ≡ trim_front l.text;
  shorter : length l.rest ≤ length l.text;
}

abbrev pub decreases-blanks : goal.decreases-blanks
decreases-blanks l = length l.rest
