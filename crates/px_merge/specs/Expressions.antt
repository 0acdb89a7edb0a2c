-- Expressions that patterns search for.
use Rattle.std.specs.Prelude.{ℕ, ◌+◌, ◌||◌, Bool, if◌then◌else◌, List, [], ◌∷◌, ◌++◌, Option, None, Some, is_some}
use Rattle.px_patterns.specs.Expressions.{IsKeptOf}
use Rattle.px_patterns.specs.Hosts.{host_expression_in}
use Rattle.px_patterns.specs.declared.kept.KeptPattern.{KeptPattern}
use Rattle.px_action_files.specs.declared.patterns.Pattern.{Pattern}
use Rattle.px_action_files.specs.declared.patterns.Pattern.TheVariants as pattern
use Rattle.px_merge.specs.declared.places.PatternPlace.{PatternPlace}
use Rattle.px_merge.specs.declared.places.Placed.{Placed}
use Rattle.px_merge.specs.Indexes.{pattern_at, place_of}

-- the expression that a pattern searches in hosts, if it has one
abbrev pub host_in : Pattern → Option (List ℕ)
host_in (pattern.Url p) = host_expression_in p.host
host_in (pattern.Tag p) = None
host_in (pattern.NoRequestTag p) = None
host_in (pattern.NoResponseTag p) = None
host_in (pattern.ClientTag p) = None

-- the expression that a pattern searches in paths or in tags, if it has one
abbrev pub expression_in : Pattern → Option (List ℕ)
expression_in (pattern.Url p) = p.path
expression_in (pattern.Tag p) = Some p.expression
expression_in (pattern.NoRequestTag p) = Some p.expression
expression_in (pattern.NoResponseTag p) = Some p.expression
expression_in (pattern.ClientTag p) = Some p.expression

abbrev pub has_expression : Pattern → Bool
has_expression p = is_some (host_in p) || is_some (expression_in p)

-- what is kept of the expressions of a pattern
abbrev pub kept_pattern : Option Pattern → KeptPattern
kept_pattern None = record { host = None; own = None }
kept_pattern (Some p) = record { host = host_in p; own = expression_in p }

-- what is kept of the pattern at a place
abbrev pub kept_at : List Placed → PatternPlace → KeptPattern
kept_at sections place = kept_pattern (pattern_at sections place)

-- what is kept, if anything is, is of the expressions of a pattern
pub record IsKeptFor (p : Pattern) (kept : KeptPattern) : Type 0 where
  pub host : IsKeptOf (host_in p) kept.host
  pub own : IsKeptOf (expression_in p) kept.own

-- the places of a section's patterns with an expression, from one pattern on
abbrev pub places_in : ℕ → ℕ → List Pattern → List PatternPlace
places_in number at [] = []
places_in number at (p ∷ patterns) = if has_expression p then place_of number at ∷ places_in number (at + 1) patterns else places_in number (at + 1) patterns

-- the places of all patterns with an expression, from one section on
abbrev pub expression_places : ℕ → List Placed → List PatternPlace
expression_places number [] = []
expression_places number (p ∷ sections) = places_in number 0 p.section.patterns ++ expression_places (number + 1) sections
