use Rattle.std.proofs.Common.{◌≡◌, ◌++◌, drop, flat_map}
use Rattle.px_framing.specs.Rules.{codings_name, codings_of, items_of, field_values}
use Rattle.px_framing.proofs.codings.codings.Given as goal

abbrev pub invariant-loop-field : goal.invariant-loop-field
invariant-loop-field l = codings_of l.fields ≡ l.items ++ flat_map items_of (field_values codings_name (drop l.field-index l.fields))
