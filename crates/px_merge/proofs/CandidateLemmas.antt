-- Patterns whose host matches, and candidates.
use Rattle.std.proofs.Common.{◌≡◌, ℕ, ◌+◌, ◌≤◌, ◌&&◌, true, false, cond, List, refl, sym, ap, ◌∙◌, arith}
use Rattle.std.proofs.lemmas.Bool.{and_parts}
use Rattle.px_patterns.specs.Hosts.{IsHostExpression, host_matches, host_part_matches}
use Rattle.px_patterns.specs.Patterns.{url_matches, ports_match, path_matches}
use Rattle.px_patterns.specs.declared.hosts.HostPart.{HostPart}
use Rattle.px_patterns.specs.declared.hosts.HostPart.TheVariants as part
use Rattle.px_patterns.specs.declared.hosts.HostPattern.{HostPattern}
use Rattle.px_patterns.specs.declared.patterns.UrlPattern.{UrlPattern}
use Rattle.px_patterns.specs.declared.urls.Url.{Url}
use Rattle.px_merge.specs.Candidates.{part_is_candidate}

-- the host of a URL that a pattern matches is one that its host part matches
pub host_too : (pattern : UrlPattern) (own : HostPattern) (url : Url) → pattern.host ≡ part.Pattern own → url_matches pattern url ≡ true → host_matches own url.host ≡ true
unfolding url_matches
host_too pattern own url is e =
    sym (ap (λ h. host_part_matches h url.host) is)
    ∙ (and_parts (host_part_matches pattern.host url.host) (ports_match pattern.ports url.port)
    (and_parts (host_part_matches pattern.host url.host && ports_match pattern.ports url.port) (path_matches pattern.path url.path) e).0).0

-- a pattern whose host part doesn't match doesn't match
pub no_host : (pattern : UrlPattern) (url : Url) → host_part_matches pattern.host url.host ≡ false → url_matches pattern url ≡ false
unfolding url_matches
no_host pattern url e =
    ap (λ b. (b && ports_match pattern.ports url.port) && path_matches pattern.path url.path) e

-- an expression is a candidate for every host
pub expression_is_candidate : (own : HostPart) (host : List ℕ) → IsHostExpression own → part_is_candidate own host ≡ true
expression_is_candidate (part.Pattern pattern) host is = absurd is
expression_is_candidate (part.Expression expression) host is = refl

-- the one step of a candidate
pub one_step : (pattern : UrlPattern) (host : List ℕ) (old new : ℕ) → part_is_candidate pattern.host host ≡ true → new ≡ old + 1 → new ≤ old + cond (part_is_candidate pattern.host host) 1 0
one_step pattern host old new candidate step = omega (arith, step, ap {B = ℕ} (λ b. cond b 1 0) candidate)
