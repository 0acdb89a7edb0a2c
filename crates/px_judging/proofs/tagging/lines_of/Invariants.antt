use Rattle.std.proofs.Common.{◌≡◌, ◌∷◌, take, map}
use Rattle.px_fields.specs.FieldLines.{field_line}
use Rattle.px_head.specs.Prints.{request_line}
use Rattle.px_judging.proofs.tagging.lines_of.Given as goal

abbrev pub invariant-loop-field : goal.invariant-loop-field
invariant-loop-field l = l.lines ≡ request_line l.head ∷ map field_line (take l.field-index l.fields)
