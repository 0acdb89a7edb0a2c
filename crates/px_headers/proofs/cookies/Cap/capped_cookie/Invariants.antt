use Rattle.std.proofs.Common.{◌≡◌, ◌++◌, [], ◌∷◌}
use Rattle.std.specs.Prelude.{◌||◌, map, option_copied, if◌then◌else◌}
use Rattle.std.specs.List.{list_any}
use Rattle.px_base.specs.Cuts.{parts_of}
use Rattle.px_headers.specs.Cookies.{cap_date, capped_attribute, capped_cookie, is_lifetime, written_attributes}
use Rattle.px_headers.proofs.CookieLemmas.{left}
use Rattle.px_headers.proofs.cookies.Cap.capped_cookie.Given as goal

abbrev pub invariant-attributes : goal.invariant-attributes
invariant-attributes l =
    l.cookie ++ written_attributes (map (λ piece. capped_attribute l.self piece) (parts_of 59 (option_copied l.rest))
    ++ (if l.limited || list_any is_lifetime (parts_of 59 (option_copied l.rest)) then [] else cap_date l.self ∷ []))
    ≡ capped_cookie l.self l.value

abbrev pub decreases-attributes : goal.decreases-attributes
decreases-attributes l = left (option_copied l.rest)
