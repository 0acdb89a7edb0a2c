use Rattle.std.proofs.Common.{◌≡◌, ◌-◌, ◌^◌, length, min, take}
use Rattle.px_templates.specs.Rendering.{rendered}
use Rattle.px_templates.specs.Runs.{held_pieces}
use Rattle.px_templates.proofs.templates.Template.room.Given as goal

abbrev pub invariant-loop-run : goal.invariant-loop-run
invariant-loop-run l = l.room ≡ min (length (rendered l.symbols (held_pieces (take l.run-index l.run-items)))) (2 ^ 64 - 1)
