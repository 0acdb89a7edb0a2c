use Rattle.std.proofs.Common.{◌≡◌, ◌++◌, length}
use Rattle.std.specs.Vec.Iter.{into_iter_items}
use Rattle.px_headers.specs.Referrers.{has_foreign_referrer}
use Rattle.px_headers.specs.Rows.{with_values}
use Rattle.px_headers.proofs.referrers.with_foreign.Given as goal

abbrev pub invariant-fields : goal.invariant-fields
invariant-fields l = l.changed ++ with_values (has_foreign_referrer l.host) (λ _. l.value) (into_iter_items l.rest) ≡ with_values (has_foreign_referrer l.host) (λ _. l.value) l.fn.fields

abbrev pub decreases-fields : goal.decreases-fields
decreases-fields l = length (into_iter_items l.rest)
