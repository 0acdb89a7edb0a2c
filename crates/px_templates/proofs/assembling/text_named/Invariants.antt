use Rattle.std.proofs.Common.{◌≡◌, drop}
use Rattle.px_templates.specs.Lines.{text_named}
use Rattle.px_templates.proofs.assembling.text_named.Given as goal

abbrev pub invariant-loop-include : goal.invariant-loop-include
invariant-loop-include l = text_named l.includes l.name ≡ text_named (drop l.include-index l.includes) l.name
