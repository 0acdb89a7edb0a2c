-- The URL pattern of a host of a list.
use Rattle.std.specs.Prelude.{ℕ, Bool, false, List, ◌∷◌, Result, Ok, Err}
use Rattle.px_patterns.specs.Patterns.{url_matches, url_pattern}
use Rattle.px_patterns.specs.declared.faults.PatternFault.{PatternFault}
use Rattle.px_patterns.specs.declared.patterns.UrlPattern.{UrlPattern}
use Rattle.px_patterns.specs.declared.urls.Url.{Url}

-- whether a URL pattern, if it is read, matches a URL
abbrev pub read_matches : Result UrlPattern PatternFault → Url → Bool
read_matches (Ok pattern) url = url_matches pattern url
read_matches (Err fault) url = false

-- whether the URL pattern `.name` matches a URL
abbrev pub is_matched : List ℕ → Url → Bool
is_matched name url = read_matches (url_pattern (46 ∷ name)) url
