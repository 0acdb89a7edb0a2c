use Rattle.std.proofs.Common.{◌≡◌, length}
use Rattle.px_base.specs.Blanks.{trim_front}
use Rattle.px_base.proofs.blanks.without_front.Given as goal

abbrev pub invariant-blanks : goal.invariant-blanks
invariant-blanks l = trim_front l.fn.bytes ≡ trim_front l.rest

abbrev pub decreases-blanks : goal.decreases-blanks
decreases-blanks l = length l.rest
