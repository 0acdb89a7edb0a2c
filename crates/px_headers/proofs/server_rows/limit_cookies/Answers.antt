use Rattle.px_headers.proofs.NumberLemmas.{decimal_within}
use Rattle.px_headers.proofs.server_rows.limit_cookies.Goals as goal

pub with_limited_cookies-requires : goal.with_limited_cookies-requires
with_limited_cookies-requires c = decimal_within 100000000 c.lifetime_minutes.result c.in-Some.value.now c.lifetime_minutes.ensures.minutes
