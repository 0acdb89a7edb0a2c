use Rattle.std.proofs.Common.{◌≡◌, ◌++◌, length}
use Rattle.std.specs.Vec.Iter.{into_iter_items}
use Rattle.px_fields.specs.Names.{has_name}
use Rattle.px_headers.specs.Rows.{with_values}
use Rattle.px_headers.proofs.rows.with_value.Given as goal

abbrev pub invariant-fields : goal.invariant-fields
invariant-fields l = l.changed ++ with_values (has_name l.name) (λ _. l.value) (into_iter_items l.rest) ≡ with_values (has_name l.name) (λ _. l.value) l.fn.fields

abbrev pub decreases-fields : goal.decreases-fields
decreases-fields l = length (into_iter_items l.rest)
