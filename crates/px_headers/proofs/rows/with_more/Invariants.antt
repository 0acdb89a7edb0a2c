use Rattle.std.proofs.Common.{◌≡◌, ◌++◌, false, true, length}
use Rattle.std.specs.Prelude.{if◌then◌else◌}
use Rattle.std.specs.Vec.Iter.{into_iter_items}
use Rattle.px_fields.specs.Names.{has_field}
use Rattle.px_headers.specs.Rows.{with_more}
use Rattle.px_headers.proofs.rows.with_more.Given as goal

abbrev pub invariant-fields : goal.invariant-fields
invariant-fields l = record {
  value : l.changed ++ (if l.found then into_iter_items l.rest else with_more l.name l.separator l.more (into_iter_items l.rest))
      ≡ with_more l.name l.separator l.more l.fn.fields;
  stands : l.found ≡ false → has_field l.name (into_iter_items l.rest) ≡ true;
}

abbrev pub decreases-fields : goal.decreases-fields
decreases-fields l = length (into_iter_items l.rest)
