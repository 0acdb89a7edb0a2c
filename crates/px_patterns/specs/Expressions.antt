-- Expressions without case, in the words of the library that reads them.
use Rattle.std.specs.Prelude.{◌≡◌, ℕ, Bool, true, false, nat_le, if◌then◌else◌, List, Option, None, Some, chars, option_and_then, is_some, Result, Ok, Err, IfSome}
use Rattle.regex_hir.specs.Re.{Re}
use Rattle.regex_hir.specs.Find.{find}
use Rattle.regex_syntax.specs.Grammar.{read}
use Rattle.regex_syntax.specs.Verdict.{default_config, default_flags}
use Rattle.regex_syntax.specs.declared.Config.{Config}
use Rattle.regex.specs.Bytes.{regex_config, regex_source, IsReadFromSource}
use Rattle.regex.specs.declared.bytes.regex.Regex.{Regex}
use Rattle.px_patterns.specs.declared.faults.PatternFault.{PatternFault}
use Rattle.px_patterns.specs.declared.faults.PatternFault.TheVariants.{BadRegex}

-- the library's options, for bytes and without case
abbrev pub pattern_options : Config
pattern_options = record default_config { flags = record default_flags { case_insensitive = true }; utf8 = false }

-- the expression of a text, where the library's grammar reads one that nests within the library's limit
unfoldable pub pattern_expression : List ℕ → Option Re
pattern_expression text = option_and_then (λ (re, names). if nat_le re.depth pattern_options.nest_limit then Some re.value else None) (read pattern_options (chars text))

abbrev pub is_expression : List ℕ → Bool
is_expression text = is_some (pattern_expression text)

-- whether the expression of a text has a match somewhere in some bytes
unfoldable pub finds : List ℕ → List ℕ → Bool
finds text bytes = is_some (option_and_then (λ re. find re bytes 0) (pattern_expression text))

-- the text of an expression, or its refusal
abbrev pub expression_of : List ℕ → Result (List ℕ) PatternFault
expression_of text = if is_expression text then Ok text else Err BadRegex

-- what is kept of an expression, if anything is, is of this one
abbrev pub IsKeptOf : Option (List ℕ) → Option (List ℕ) → Type 0
IsKeptOf expression kept = IfSome kept (λ text. expression ≡ Some text)

-- the library read it with these options
abbrev pub IsBuilt : Regex → Type 0
IsBuilt regex = (regex_config regex ≡ pattern_options) × IsReadFromSource regex

abbrev pub IsBuiltFrom : List ℕ → Regex → Type 0
IsBuiltFrom text regex = (regex_source regex ≡ text) × IsBuilt regex
