-- The expression that a pattern's text stands for.
use Rattle.std.specs.Prelude.{ℕ, ◌≡◌, List, Option, Some, None, chars, nat_le, if◌then◌else◌}
use Rattle.std.specs.Option.{option_and_then}
use Rattle.std.specs.Str.{is_utf8}
use Rattle.regex_hir.specs.Re.{Re}
use Rattle.regex_syntax.specs.Grammar.{read}
use Rattle.regex_syntax.specs.Captures.{SameCaptures}
use Rattle.regex.specs.Bytes.{regex_pattern, regex_source}
use Rattle.regex.specs.declared.bytes.regex.Regex.{Regex}
use Rattle.px_subst.specs.declared.flags.Flags.{Flags}
use Rattle.px_subst.specs.JobFlags.{job_options}

-- how deep an expression may nest
abbrev pub deepest : ℕ
deepest = 250

-- the expression that the library's grammar reads in UTF-8, where it nests no deeper than the library takes
unfoldable pub job_expression : Flags → List ℕ → Option Re
job_expression flags pattern =
    if is_utf8 pattern then option_and_then (λ (written, names). if nat_le written.depth deepest then Some written.value else None)
    (read (job_options flags) (chars pattern))
    else None

-- re is what the pattern stands for, as far as a search can tell
abbrev pub IsJobBuiltFrom : Flags → List ℕ → Re → Type 0
IsJobBuiltFrom flags pattern re = (written : Re) × (job_expression flags pattern ≡ Some written) × SameCaptures re written

-- the library's expression was built from the pattern
abbrev pub IsJobBuilt : Flags → List ℕ → Regex → Type 0
IsJobBuilt flags pattern regex = (regex_source regex ≡ pattern) × IsJobBuiltFrom flags (regex_source regex) (regex_pattern regex)
