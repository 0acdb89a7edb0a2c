use Rattle.std.proofs.Common.{◌≡◌, length}
use Rattle.px_base.specs.Blanks.{trim_end}
use Rattle.px_base.proofs.blanks.without_end.Given as goal

abbrev pub invariant-blanks : goal.invariant-blanks
invariant-blanks l = trim_end l.fn.bytes ≡ trim_end l.rest

abbrev pub decreases-blanks : goal.decreases-blanks
decreases-blanks l = length l.rest
