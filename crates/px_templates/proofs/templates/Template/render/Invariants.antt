use Rattle.std.proofs.Common.{◌≡◌, take}
use Rattle.px_templates.specs.Rendering.{rendered}
use Rattle.px_templates.specs.Runs.{held_pieces}
use Rattle.px_templates.proofs.templates.Template.render.Given as goal

abbrev pub invariant-loop-run : goal.invariant-loop-run
invariant-loop-run l = l.page ≡ rendered l.symbols (held_pieces (take l.run-index l.run-items))
