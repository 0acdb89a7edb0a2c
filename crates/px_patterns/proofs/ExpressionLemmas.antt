-- What a built regex says of the expression of its text, and what a refusal says.
use Rattle.std.proofs.Common.{◌≡◌, ◌<◌, ◌≤◌, ℕ, true, false, List, Option, None, Some, chars, inl, inr, refl, ap, sym, subst, length, ◌∙◌}
use Rattle.std.specs.Prelude.{◌≢◌, IsSomeAnd, IfSome, nat_le, if◌then◌else◌, is_some, option_and_then, Err, Ok, codes, slice_index}
use Rattle.std.proofs.lemmas.Bool.{le-leb, lt-leb}
use Rattle.regex_hir.specs.declared.hir.Hir.{Hir}
use Rattle.regex_hir.specs.Find.{find}
use Rattle.regex_hir.specs.Meaning.{meaning}
use Rattle.regex_hir.specs.Re.{Re}
use Rattle.regex_syntax.specs.Brackets.{Nested}
use Rattle.regex_syntax.specs.Captures.{SameCaptures}
use Rattle.regex_syntax.specs.Grammar.{Names, read, group_count}
use Rattle.regex_syntax.specs.Verdict.{Reads, Refuses, default_config}
use Rattle.regex_syntax.specs.declared.Config.{Config}
use Rattle.regex_syntax.specs.declared.error.ErrorKind.{ErrorKind}
use Rattle.regex_syntax.specs.declared.error.ErrorKind.TheVariants.{OutOfMemory}
use Rattle.regex.proofs.ForCallers.{is_match_alike}
use Rattle.regex.specs.Bytes.{regex_pattern, regex_source}
use Rattle.regex.specs.Names.{names_of}
use Rattle.regex.specs.declared.bytes.regex.Regex.{Regex}
use Rattle.regex.specs.declared.builder.RegexBuilder.{RegexBuilder}
use Rattle.px_patterns.specs.declared.faults.PatternFault.TheVariants.{BadRegex}
use Rattle.px_patterns.specs.Expressions.{IsBuilt, IsBuiltFrom, pattern_expression, expression_of, finds, pattern_options}
use Rattle.px_patterns.specs.Searches.{FindsAs, SearchesFor}

-- an expression that nests within the limit
abbrev within_limit : Option (Nested Re × Names) → Option Re
within_limit o = option_and_then (λ ((re, names) : Nested Re × Names). if nat_le re.depth 250 then Some re.value else None) o

read_within : (o : Option (Nested Re × Names)) (hir : Hir) (names : Names) → IsSomeAnd o (λ (re, found).
    (re.depth ≤ 250) × SameCaptures (meaning hir) re.value × (names ≡ found) × (group_count (meaning hir) ≤ length names)) →
    (re : Re) × (within_limit o ≡ Some re) × SameCaptures (meaning hir) re
read_within None hir names read = absurd read
read_within (Some (re, found)) hir names read = (re.value, rw (le-leb re.depth 250 read.0) refl, read.1)

-- the expression of a text from which a tree was read
pub expression_from_reads : (text : List ℕ) (config : Config) (source : List ℕ) (hir : Hir) (names : Names) → config ≡ pattern_options → source ≡ text → Reads config source hir names →
    (re : Re) × (pattern_expression text ≡ Some re) × SameCaptures (meaning hir) re
unfolding Reads pattern_expression
expression_from_reads text config source hir names is_config is_source reads = read_within (read pattern_options (chars text)) hir names (rw (is_config, is_source) at reads)

pub expression_of-reads : (text shown : List ℕ) (config : Config) (source : List ℕ) (hir : Hir) (names : Names) → config ≡ pattern_options → source ≡ text → shown ≡ text → Reads config source hir names → expression_of text ≡ Ok shown
expression_of-reads text shown config source hir names is_config is_source is_shown reads =
    rw (ap is_some (expression_from_reads text config source hir names is_config is_source reads).1) (ap (λ t. Ok t) (sym is_shown))

deep_or_unread : (o : Option (Nested Re × Names)) → IfSome o (λ (re, found). 250 < re.depth) → within_limit o ≡ None
deep_or_unread None deep = refl
deep_or_unread (Some (re, found)) deep = rw (lt-leb re.depth 250 deep) refl

-- a refusal of the syntax: no expression, or one that nests too deep
pub unread_from_refuses : (text : List ℕ) (config : Config) (source : List ℕ) (kind : ErrorKind) → config ≡ pattern_options → source ≡ text → kind ≢ OutOfMemory → Refuses config source kind → pattern_expression text ≡ None
unfolding Refuses pattern_expression
unread_from_refuses text config source kind is_config is_source memory refuses =
    elim (rw (is_config, is_source) at refuses) [
      | inl is ↦ absurd (memory is)
      | inr other ↦ elim other [ inl none ↦ ap within_limit none | inr deep ↦ deep_or_unread (read pattern_options (chars text)) deep.1 ]
    ]

pub refusal_of : (text : List ℕ) → pattern_expression text ≡ None → expression_of text ≡ Err BadRegex
refusal_of text none = rw none refl

-- what the builder's steps make of the options
pub options_of : (new set : RegexBuilder) → new.config ≡ default_config → set ≡ record new { config = record new.config { flags = record new.config.flags { case_insensitive = true } } } →
    record set.config { utf8 = false } ≡ pattern_options
options_of new set is_new is_set =
    ap (λ (b : RegexBuilder). record b.config { utf8 = false }) is_set
    ∙ ap (λ (k : Config). record k { flags = record k.flags { case_insensitive = true }; utf8 = false }) is_new

-- a search by a built expression finds what the expression of its text does
pub finds_from_reads : (text bytes : List ℕ) (config : Config) (hir : Hir) (names : Names) → config ≡ pattern_options → Reads config text hir names → ((k : ℕ) → slice_index bytes k < 256) →
    is_some (find (meaning hir) bytes 0) ≡ finds text bytes
unfolding finds
finds_from_reads text bytes config hir names is_config reads fits =
    let built = expression_from_reads text config text hir names is_config refl reads in
    is_match_alike built.2 bytes fits false 0 ∙ sym (ap (λ (o : Option Re). is_some (option_and_then (λ re. find re bytes 0) o)) built.1)

-- what the library made of a text searches for the expression of that text
pub finds_as_built : (regex : Regex) → IsBuilt regex → FindsAs (regex_source regex) (regex_pattern regex)
finds_as_built regex built = λ bytes fits.
    finds_from_reads _ bytes regex.pattern.config regex.pattern.program.hir (names_of regex.pattern.names.items) built.0 built.1 fits

-- what the library made of a text, by the text that it is kept for
pub searches_as_built : (text : List ℕ) (regex : Regex) → IsBuilt regex × (regex_source regex ≢ codes "^/") → regex_source regex ≡ text → SearchesFor text regex
searches_as_built text regex built is = record {
  finds = subst (λ t. FindsAs t (regex_pattern regex)) is (finds_as_built regex built.0);
  other = λ same. built.1 (is ∙ same);
}

pub reads_as_built : (text : List ℕ) (regex : Regex) → IsBuiltFrom text regex → expression_of text ≡ Ok (regex_source regex)
reads_as_built text regex built =
    expression_of-reads text _ regex.pattern.config _ regex.pattern.program.hir (names_of regex.pattern.names.items) built.1.0 built.0 built.0 built.1.1
