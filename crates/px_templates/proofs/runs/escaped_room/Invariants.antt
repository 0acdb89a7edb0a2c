use Rattle.std.proofs.Common.{◌≡◌, ◌-◌, ◌^◌, length, min, take}
use Rattle.px_templates.specs.Rendering.{escaped}
use Rattle.px_templates.proofs.runs.escaped_room.Given as goal

abbrev pub invariant-loop-byte : goal.invariant-loop-byte
invariant-loop-byte l = l.room ≡ min (length (escaped (take l.byte-index l.value))) (2 ^ 64 - 1)
