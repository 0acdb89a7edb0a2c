use Rattle.std.proofs.Common.{◌≡◌, ◌≤◌, ◌-◌, ◌++◌, take, drop, vec_len}
use Rattle.px_headers.specs.HeldBack.{is_held}
use Rattle.px_headers.specs.Rows.{without_those}
use Rattle.px_headers.proofs.held_back.pass_on.Given as goal

abbrev pub invariant-fields : goal.invariant-fields
invariant-fields l = record {
  within : l.at ≤ vec_len l.kept;
  same : without_those (λ f. is_held l.held f.name) l.fn.fields ≡ take l.at l.kept.items ++ without_those (λ f. is_held l.held f.name) (drop l.at l.kept.items);
}

abbrev pub decreases-fields : goal.decreases-fields
decreases-fields l = vec_len l.kept - l.at
