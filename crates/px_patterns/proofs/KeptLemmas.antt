-- Searches by what is kept of a pattern's expressions.
use Rattle.std.proofs.Common.{◌≡◌, ℕ, Bool, List, Option, None, Some, sym, ap, ◌∙◌}
use Rattle.px_patterns.specs.declared.hosts.HostPart.{HostPart}
use Rattle.px_patterns.specs.declared.hosts.HostPart.TheVariants as part
use Rattle.px_patterns.specs.Expressions.{finds}
use Rattle.px_patterns.specs.Hosts.{expression_matches, host_expression_in, host_part_matches, without_last_dot}
use Rattle.px_patterns.specs.Patterns.{path_matches}

-- a search for the expression of a host part says whether the host part matches
pub kept_host : (own : HostPart) (text host : List ℕ) (b : Bool) → host_expression_in own ≡ Some text → b ≡ finds text (without_last_dot host) → b ≡ host_part_matches own host
kept_host (part.Pattern pattern) text host b is found = absurd (cc is)
kept_host (part.Expression expression) text host b is found = found ∙ sym (ap (λ (e : Option (List ℕ)). expression_matches e host) is)

-- the same of a path pattern
pub kept_path : (pattern : Option (List ℕ)) (text path : List ℕ) (b : Bool) → pattern ≡ Some text → b ≡ finds text path → b ≡ path_matches pattern path
kept_path pattern text path b is found = found ∙ sym (ap (λ (e : Option (List ℕ)). path_matches e path) is)
