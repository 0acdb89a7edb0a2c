use Rattle.std.proofs.Common.{◌≡◌, ◌++◌, length}
use Rattle.px_templates.specs.Lines.{without_comments}
use Rattle.px_templates.proofs.assembling.push_uncommented.Given as goal

abbrev pub invariant-lines : goal.invariant-lines
invariant-lines l = l.fn.out ++ without_comments l.text ≡ l.out ++ without_comments l.rest

abbrev pub decreases-lines : goal.decreases-lines
decreases-lines l = length l.rest
