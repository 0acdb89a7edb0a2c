use Rattle.std.proofs.Common.{◌≡◌, ◌∷◌, map, take}
use Rattle.px_fields.specs.FieldLines.{field_line}
use Rattle.px_head.specs.Prints.{status_line}
use Rattle.px_pumps.proofs.framings.received_lines.Given as goal

abbrev pub invariant-loop-field : goal.invariant-loop-field
invariant-loop-field l = l.lines ≡ status_line l.head ∷ map field_line (take l.field-index l.head.fields)
