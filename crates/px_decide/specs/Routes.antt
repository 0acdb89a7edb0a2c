-- Where a request is sent.
use Rattle.std.specs.Prelude.{true, false, List, [], ◌∷◌, Option, Some, None, unwrap_or, if◌then◌else◌}
use Rattle.std.specs.Option.{option_map_or, option_or}
use Rattle.px_patterns.specs.declared.urls.Url.{Url}
use Rattle.px_patterns.specs.Patterns.{url_matches}
use Rattle.px_actions.specs.Hops.{NextHop, direct, parent}
use Rattle.px_actions.specs.Rules.{override_hop}
use Rattle.px_actions.specs.Sets.{value}
use Rattle.px_actions.specs.declared.kinds.Kind.TheVariants.{ForwardOverride}
use Rattle.px_actions.specs.declared.settings.Setting.{Setting}
use Rattle.px_base.specs.DialNames.{Server}
use Rattle.px_decide.specs.declared.routes.Route.{Route}
use Rattle.px_decide.specs.Forwards.{Line}
use Rattle.px_decide.specs.Servers.{dial_name}

-- the last line whose pattern matches, of either kind
unfoldable pub last_line : Url → List Line → Option Line
last_line url [] = None
last_line url (line ∷ rest) = option_or (last_line url rest) (if url_matches line.pattern url then Some line else None)

-- the route of a next hop; the origin is the URL's host and port
abbrev pub route_by : Url → NextHop → Route
route_by url direct = record { host = url.host; port = url.port; parent = false }
route_by url (parent host port) = record { host = host; port = port; parent = true }

-- the same route through a SOCKS server: the host is the dial name of the route's host behind it, and the port is the route's
abbrev pub through : Option Server → Route → Route
through None route = route
through (Some server) route = record { host = dial_name server route.host; port = route.port; parent = route.parent }

abbrev pub route_by_line : Url → Line → Route
route_by_line url line = through line.server (route_by url line.hop)

-- a request is sent to the origin itself where no line matches
abbrev pub route_by_lines : Url → List Line → Route
route_by_lines url lines = option_map_or (route_by_line url) (last_line url lines) (route_by url direct)

-- `forward-override` wins over every line
unfoldable pub route_of : Url → List Setting → List Line → Route
route_of url set lines = option_map_or (λ v. route_by url (unwrap_or (override_hop v) direct)) (value set ForwardOverride) (route_by_lines url lines)
