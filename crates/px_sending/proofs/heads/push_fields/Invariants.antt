use Rattle.std.proofs.Common.{◌≡◌, ◌++◌, take}
use Rattle.px_head.specs.Prints.{field_lines}
use Rattle.px_sending.proofs.heads.push_fields.Given as goal

abbrev pub invariant-loop-field : goal.invariant-loop-field
invariant-loop-field l = l.head.items ≡ l.initial.head.items ++ field_lines (take l.field-index l.fields)
