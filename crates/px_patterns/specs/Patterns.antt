-- URL patterns and tag patterns: what their texts stand for, and what they match.
use Rattle.std.specs.Prelude.{◌≡◌, ℕ, ◌==◌, ◌&&◌, ◌||◌, Bool, true, if◌then◌else◌, List, ◌∷◌, ◌++◌, length, drop, slice_index, Option, None, Some, Result, Ok, Err, codes}
use Rattle.std.specs.List.{after_first, before_first, list_any}
use Rattle.px_base.specs.Ports.{allows, port_list}
use Rattle.px_base.specs.declared.ports.PortRange.{PortRange}
use Rattle.px_patterns.specs.declared.TheConstants.{ADDRESS_BEGIN, ADDRESS_END, CARET, COLON, SLASH}
use Rattle.px_patterns.specs.declared.faults.PatternFault.{PatternFault}
use Rattle.px_patterns.specs.declared.faults.PatternFault.TheVariants.{BadAddress, BadPort, HasProtocol}
use Rattle.px_patterns.specs.declared.hosts.HostPart.{HostPart}
use Rattle.px_patterns.specs.declared.hosts.HostPart.TheVariants.{Expression, Pattern}
use Rattle.px_patterns.specs.declared.hosts.HostPattern.{HostPattern}
use Rattle.px_patterns.specs.declared.hosts.HostPattern.TheVariants.{Address}
use Rattle.px_patterns.specs.declared.patterns.UrlPattern.{UrlPattern}
use Rattle.px_patterns.specs.declared.patterns.TagPattern.{TagPattern}
use Rattle.px_patterns.specs.declared.urls.Url.{Url}
use Rattle.px_patterns.specs.Expressions.{expression_of, finds}
use Rattle.px_patterns.specs.Hosts.{host_expression_in, host_part_matches, host_pattern}
use Rattle.px_patterns.specs.Urls.{begins_without_case, is_address}
use Rattle.px_base.specs.Results.{result_map}

-- ---- what a text stands for

abbrev pub has_protocol : List ℕ → Bool
has_protocol text = begins_without_case text (codes "http://") || begins_without_case text (codes "https://")

abbrev pub begins_path : ℕ → Bool
begins_path b = b == SLASH

abbrev pub begins_ports : ℕ → Bool
begins_ports b = b == COLON

-- the host part goes to the first slash
abbrev pub pattern_host_part : List ℕ → List ℕ
pattern_host_part text = before_first begins_path text

-- the path pattern is all from the first slash on
abbrev pub path_pattern : List ℕ → Option (List ℕ)
path_pattern text = if list_any begins_path text then Some (SLASH ∷ after_first begins_path text) else None

-- a path pattern, by what stands behind its slash
abbrev pub behind_slash : Option (List ℕ) → Option (List ℕ)
behind_slash None = None
behind_slash (Some behind) = Some (SLASH ∷ behind)

-- what stands behind the first colon is a list of ports
abbrev pub port_text : List ℕ → Option (List ℕ)
port_text text = if list_any begins_ports text then Some (after_first begins_ports text) else None

abbrev pub with_ports : Option (List PortRange) → Result (Option (List PortRange)) PatternFault
with_ports None = Err BadPort
with_ports (Some ports) = Ok (Some ports)

-- the ports of a text, which isn't empty where there is one
unfoldable pub ports_of : Option (List ℕ) → Result (Option (List PortRange)) PatternFault
ports_of None = Ok None
ports_of (Some text) = if length text == 0 then Err BadPort else with_ports (port_list text)

-- the path pattern as an expression that begins at the front of the path
unfoldable pub path_expression : Option (List ℕ) → Result (Option (List ℕ)) PatternFault
path_expression None = Ok None
path_expression (Some pattern) = result_map (λ text. Some text) (expression_of (CARET ∷ pattern))

-- the refusals of the parts in their order: the ports, the host, the path
abbrev pub with_path : HostPart → Option (List PortRange) → Result (Option (List ℕ)) PatternFault → Result UrlPattern PatternFault
with_path host ports (Err fault) = Err fault
with_path host ports (Ok path) = Ok record { host = host; ports = ports; path = path }

abbrev pub with_host_pattern : Option (List PortRange) → Result HostPattern PatternFault → Option (List ℕ) → Result UrlPattern PatternFault
with_host_pattern ports (Err fault) path = Err fault
with_host_pattern ports (Ok host) path = with_path (Pattern host) ports (path_expression path)

abbrev pub with_parts : Result HostPattern PatternFault → Result (Option (List PortRange)) PatternFault → Option (List ℕ) → Result UrlPattern PatternFault
with_parts host (Err fault) path = Err fault
with_parts host (Ok ports) path = with_host_pattern ports host path

-- a host by its address: behind `<` an address goes to `>`, and nothing or a colon follows
abbrev pub address_end : ℕ → Bool
address_end b = b == ADDRESS_END

abbrev pub is_addressed : List ℕ → Bool
is_addressed text =
    (list_any address_end text && is_address (before_first address_end text))
    && (length (after_first address_end text) == 0 || slice_index (after_first address_end text) 0 == COLON)

abbrev pub addressed_pattern : List ℕ → Option (List ℕ) → Result UrlPattern PatternFault
addressed_pattern text path =
    if is_addressed text then with_parts (Ok (Address (before_first address_end text))) (ports_of (port_text (after_first address_end text))) path
    else Err BadAddress

-- a host by its labels, which goes to the first colon
abbrev pub named_pattern : List ℕ → Option (List ℕ) → Result UrlPattern PatternFault
named_pattern part path = with_parts (host_pattern (before_first begins_ports part)) (ports_of (port_text part)) path

-- the URL pattern of a host part and a path pattern
abbrev pub pattern_of_parts : List ℕ → Option (List ℕ) → Result UrlPattern PatternFault
pattern_of_parts part path = if slice_index part 0 == ADDRESS_BEGIN then addressed_pattern (drop 1 part) path else named_pattern part path

-- the URL pattern that a text stands for, or the first refusal
unfoldable pub url_pattern : List ℕ → Result UrlPattern PatternFault
url_pattern text = if has_protocol text then Err HasProtocol else pattern_of_parts (pattern_host_part text) (path_pattern text)

-- ---- a host expression, which goes to the first slash, and a path pattern

-- an expression that must match a host from its front to its end
abbrev pub whole_host : List ℕ → List ℕ
whole_host text = codes "^(?:" ++ text ++ codes ")$"

-- a first reading's refusal, or else what a second reading gives
abbrev pub then_reads : {X Y : Type 0} → Result X PatternFault → Result Y PatternFault → Result Y PatternFault
then_reads (Err fault) second = Err fault
then_reads (Ok x) second = second

-- the expression of a host part: it is read alone, and again as one of a whole host; an empty one stands for every host
unfoldable pub host_expression : List ℕ → Result (Option (List ℕ)) PatternFault
host_expression text =
    if length text == 0 then Ok None
    else then_reads (expression_of text) (result_map (λ whole. Some whole) (expression_of (whole_host text)))

abbrev pub with_expression : Result (Option (List ℕ)) PatternFault → Option (List ℕ) → Result UrlPattern PatternFault
with_expression (Err fault) path = Err fault
with_expression (Ok expression) path = with_path (Expression expression) None (path_expression path)

-- the URL pattern whose host is an expression that a text stands for, or the first refusal
unfoldable pub expression_pattern : List ℕ → Result UrlPattern PatternFault
expression_pattern text = with_expression (host_expression (pattern_host_part text)) (path_pattern text)

-- the tag pattern that a text stands for, or its refusal
unfoldable pub tag_pattern : List ℕ → Result TagPattern PatternFault
tag_pattern text = result_map (λ expression. record { expression = expression }) (expression_of text)

-- ---- what a pattern matches

-- an absent part matches everything
abbrev pub ports_match : Option (List PortRange) → ℕ → Bool
ports_match None port = true
ports_match (Some ranges) port = allows ranges port

abbrev pub path_matches : Option (List ℕ) → List ℕ → Bool
path_matches None path = true
path_matches (Some expression) path = finds expression path

-- a URL pattern matches a URL where host, port and path match
unfoldable pub url_matches : UrlPattern → Url → Bool
url_matches pattern url = (host_part_matches pattern.host url.host && ports_match pattern.ports url.port) && path_matches pattern.path url.path

-- no search is needed without a path pattern, and for `/`
abbrev pub NeedsNoSearch : Option (List ℕ) → Type 0
NeedsNoSearch None = Unit {0}
NeedsNoSearch (Some expression) = expression ≡ codes "^/"

-- nor is one for a host part without an expression
abbrev pub NeedsNoHostSearch : HostPart → Type 0
NeedsNoHostSearch host = host_expression_in host ≡ None

-- a tag pattern matches a tag where its expression has a match somewhere in it
abbrev pub tag_matches : TagPattern → List ℕ → Bool
tag_matches pattern tag = finds pattern.expression tag
