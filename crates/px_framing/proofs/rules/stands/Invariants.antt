use Rattle.std.proofs.Common.{◌≡◌, drop}
use Rattle.px_framing.specs.Rules.{has_values, field_values}
use Rattle.px_framing.proofs.rules.stands.Given as goal

abbrev pub invariant-loop-field : goal.invariant-loop-field
invariant-loop-field l = has_values (field_values l.name l.fields) ≡ has_values (field_values l.name (drop l.field-index l.fields))
