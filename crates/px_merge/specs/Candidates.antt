-- URL patterns that are candidates for a host.
use Rattle.std.specs.Prelude.{ℕ, ◌+◌, Bool, true, if◌then◌else◌, List, [], ◌∷◌}
use Rattle.px_patterns.specs.Hosts.{is_candidate}
use Rattle.px_patterns.specs.declared.hosts.HostPart.{HostPart}
use Rattle.px_patterns.specs.declared.hosts.HostPart.TheVariants as part
use Rattle.px_action_files.specs.declared.patterns.Pattern.{Pattern}
use Rattle.px_action_files.specs.declared.patterns.Pattern.TheVariants as pattern
use Rattle.px_merge.specs.declared.places.Placed.{Placed}

-- whether a host part is a candidate for a host; an expression is one for every host
abbrev pub part_is_candidate : HostPart → List ℕ → Bool
part_is_candidate (part.Pattern host_pattern) host = is_candidate host_pattern host
part_is_candidate (part.Expression expression) host = true

-- 1 for a URL pattern that is a candidate for a host
abbrev pub cost : List ℕ → Pattern → ℕ
cost host (pattern.Url p) = if part_is_candidate p.host host then 1 else 0
cost host (pattern.Tag p) = 0
cost host (pattern.NoRequestTag p) = 0
cost host (pattern.NoResponseTag p) = 0
cost host (pattern.ClientTag p) = 0

-- how many URL patterns are candidates for a host
abbrev pub candidates_in : List ℕ → List Pattern → ℕ
candidates_in host [] = 0
candidates_in host (p ∷ patterns) = cost host p + candidates_in host patterns

abbrev pub candidate_count : List Placed → List ℕ → ℕ
candidate_count [] host = 0
candidate_count (p ∷ sections) host = candidates_in host p.section.patterns + candidate_count sections host
