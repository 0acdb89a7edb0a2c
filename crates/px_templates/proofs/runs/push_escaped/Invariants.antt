use Rattle.std.proofs.Common.{◌≡◌, ◌++◌, take}
use Rattle.px_templates.specs.Rendering.{escaped}
use Rattle.px_templates.proofs.runs.push_escaped.Given as goal

abbrev pub invariant-loop-byte : goal.invariant-loop-byte
invariant-loop-byte l = l.out ≡ l.fn.out ++ escaped (take l.byte-index l.value)
