use Rattle.std.proofs.Common.{take}
use Rattle.px_log_lines.specs.Lines.{Keeps, shown_bytes}
use Rattle.px_log_lines.proofs.escapes.push_escaped.Given as goal

abbrev pub invariant-loop-byte : goal.invariant-loop-byte
invariant-loop-byte l = Keeps l.initial.out l.out (shown_bytes (take l.byte-index l.bytes))
