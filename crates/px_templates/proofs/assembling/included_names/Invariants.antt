use Rattle.std.proofs.Common.{◌≡◌, ◌++◌, length}
use Rattle.px_templates.specs.Lines.{included_names}
use Rattle.px_templates.proofs.assembling.included_names.Given as goal

abbrev pub invariant-lines : goal.invariant-lines
invariant-lines l = included_names l.text ≡ l.names.items ++ included_names l.rest

abbrev pub decreases-lines : goal.decreases-lines
decreases-lines l = length l.rest
