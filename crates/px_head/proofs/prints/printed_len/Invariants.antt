use Rattle.std.proofs.Common.{◌≡◌, ◌+◌, ◌-◌, ◌^◌, length, take, min}
use Rattle.px_head.specs.Prints.{field_lines}
use Rattle.px_head.proofs.prints.printed_len.Given as goal

abbrev pub invariant-loop-field : goal.invariant-loop-field
invariant-loop-field l = l.len ≡ min (length l.first_line + 4 + length (field_lines (take l.field-index l.fields))) (2 ^ 64 - 1)
