use Rattle.std.proofs.Common.{◌≡◌, ◌++◌, length}
use Rattle.px_templates.specs.Lines.{assembled}
use Rattle.px_templates.proofs.assembling.assemble.Given as goal

abbrev pub invariant-lines : goal.invariant-lines
invariant-lines l = assembled l.includes l.text ≡ l.out ++ assembled l.includes l.rest

abbrev pub decreases-lines : goal.decreases-lines
decreases-lines l = length l.rest
