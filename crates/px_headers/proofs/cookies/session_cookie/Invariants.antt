use Rattle.std.proofs.Common.{◌≡◌, ◌++◌}
use Rattle.std.specs.Prelude.{option_copied}
use Rattle.px_base.specs.Cuts.{parts_of}
use Rattle.px_headers.specs.Cookies.{session_attributes, session_cookie, written_attributes}
use Rattle.px_headers.proofs.CookieLemmas.{left}
use Rattle.px_headers.proofs.cookies.session_cookie.Given as goal

abbrev pub invariant-attributes : goal.invariant-attributes
invariant-attributes l = l.cookie ++ written_attributes (session_attributes (parts_of 59 (option_copied l.rest))) ≡ session_cookie l.value

abbrev pub decreases-attributes : goal.decreases-attributes
decreases-attributes l = left (option_copied l.rest)
