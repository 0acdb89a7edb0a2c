use Rattle.std.proofs.Common.{◌≡◌, ◌++◌, length}
use Rattle.std.specs.Vec.Iter.{into_iter_items}
use Rattle.px_headers.specs.Filtering.{made_fields, run_all}
use Rattle.px_headers.proofs.filtering.made_fields.Given as goal

abbrev pub invariant-fields : goal.invariant-fields
invariant-fields l = record {
  value : l.made ++ made_fields (run_all l.fn.warm l.kind l.vars l.names) (into_iter_items l.rest) ≡ made_fields (run_all l.fn.warm l.kind l.vars l.names) l.fn.fields;
  same : l.warm ≡ l.fn.warm;
}

abbrev pub decreases-fields : goal.decreases-fields
decreases-fields l = length (into_iter_items l.rest)
