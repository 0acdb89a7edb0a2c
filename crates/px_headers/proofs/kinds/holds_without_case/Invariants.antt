use Rattle.std.proofs.Common.{◌≡◌, length}
use Rattle.px_headers.specs.Kinds.{holds_without_case}
use Rattle.px_headers.proofs.kinds.holds_without_case.Given as goal

abbrev pub invariant-places : goal.invariant-places
invariant-places l = holds_without_case l.word l.rest ≡ holds_without_case l.word l.text

abbrev pub decreases-places : goal.decreases-places
decreases-places l = length l.rest
