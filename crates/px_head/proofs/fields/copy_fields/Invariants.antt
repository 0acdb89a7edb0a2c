use Rattle.std.proofs.Common.{◌≡◌, take, map}
use Rattle.px_head.specs.Fields.{field_at}
use Rattle.px_head.proofs.fields.copy_fields.Given as goal

abbrev pub invariant-loop-span : goal.invariant-loop-span
invariant-loop-span l = l.fields ≡ map (field_at l.block) (take l.span-index l.spans)
