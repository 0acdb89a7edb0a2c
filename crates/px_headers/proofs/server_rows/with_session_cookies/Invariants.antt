use Rattle.std.proofs.Common.{◌≡◌, ◌++◌, length}
use Rattle.std.specs.Prelude.{codes}
use Rattle.std.specs.Vec.Iter.{into_iter_items}
use Rattle.px_fields.specs.Names.{has_name}
use Rattle.px_headers.specs.Cookies.{session_cookie}
use Rattle.px_headers.specs.Rows.{with_values}
use Rattle.px_headers.proofs.server_rows.with_session_cookies.Given as goal

abbrev pub invariant-fields : goal.invariant-fields
invariant-fields l = l.changed ++ with_values (has_name (codes "Set-Cookie")) session_cookie (into_iter_items l.rest) ≡ with_values (has_name (codes "Set-Cookie")) session_cookie l.fn.fields

abbrev pub decreases-fields : goal.decreases-fields
decreases-fields l = length (into_iter_items l.rest)
