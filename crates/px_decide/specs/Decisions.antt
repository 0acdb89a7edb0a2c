-- What becomes of a request, by its actions.
use Rattle.std.specs.Prelude.{ℕ, Bool, true, List, codes, if◌then◌else◌}
use Rattle.std.specs.Option.{option_map_or}
use Rattle.std.specs.Str.{bytes_eq}
use Rattle.px_base.specs.Ports.{allows, port_list}
use Rattle.px_patterns.specs.declared.urls.Url.{Url}
use Rattle.px_actions.specs.Sets.{is_on, value}
use Rattle.px_actions.specs.declared.kinds.Kind.TheVariants as kind
use Rattle.px_actions.specs.declared.settings.Setting.{Setting}
use Rattle.px_subst.specs.declared.words.Vars.{Vars}
use Rattle.px_decide.specs.declared.decisions.Decision.{Decision}
use Rattle.px_decide.specs.declared.decisions.Decision.TheVariants as decision
use Rattle.px_decide.specs.Targets.{target_of_redirects, target_text}

-- what a blocked image becomes: one of two images, or a redirect to the value
abbrev pub image_decision : List ℕ → Decision
image_decision v =
    if bytes_eq v (codes "blank") then decision.ImageBlank
    else if bytes_eq v (codes "pattern") then decision.ImagePattern
    else decision.Redirect (target_text v)

-- an empty document, or the page with the reason
abbrev pub document_decision : List Setting → List ℕ → Decision
document_decision set reason = if is_on set kind.HandleAsEmptyDocument then decision.Empty else decision.Blocked reason

-- what a blocked request becomes
unfoldable pub block_decision : List Setting → List ℕ → Decision
block_decision set reason =
    if is_on set kind.HandleAsImage then option_map_or image_decision (value set kind.SetImageBlocker) (document_decision set reason)
    else document_decision set reason

-- every port may be connected to, unless `limit-connect` says which
abbrev pub may_connect : List Setting → ℕ → Bool
may_connect set port = option_map_or (λ v. option_map_or (λ ranges. allows ranges port) (port_list v) true) (value set kind.LimitConnect) true

-- what becomes of a request for a tunnel to a port
unfoldable pub tunnel_decision : List Setting → ℕ → Decision
tunnel_decision set port = if may_connect set port then decision.Pass else decision.ConnectDenied

-- what becomes of any other request that isn't blocked
abbrev pub redirect_decision : Url → List Setting → Vars → Decision
redirect_decision url set vars = option_map_or (λ target. decision.Redirect (target_text target)) (target_of_redirects url set vars) decision.Pass

-- block comes first, then what concerns tunnels alone, then redirects
unfoldable pub decision_of : Url → Bool → List Setting → Vars → Decision
decision_of url connect set vars =
    option_map_or (block_decision set) (value set kind.Block)
    (if connect then tunnel_decision set url.port else redirect_decision url set vars)
