-- What a built expression says of its text, and what a refusal says.
use Rattle.std.proofs.Common.{◌≡◌, ◌≢◌, ◌<◌, ◌≤◌, ℕ, false, List, Option, None, Some, IsSomeAnd, IfSome, IsUtf8, chars, nat_le, refl, ap, ◌∙◌, le-leb, inl, inr, length, if◌then◌else◌}
use Rattle.std.specs.Option.{option_and_then}
use Rattle.std.specs.Str.{is_utf8}
use Rattle.std.proofs.lemmas.Str.{is_utf8-from_IsUtf8}
use Rattle.std.proofs.lemmas.Bool.{cond-true, cond-false, lt-leb}
use Rattle.regex_hir.specs.declared.hir.Hir.{Hir}
use Rattle.regex_hir.specs.Re.{Re}
use Rattle.regex_hir.specs.Meaning.{meaning}
use Rattle.regex_syntax.specs.Brackets.{Nested}
use Rattle.regex_syntax.specs.Grammar.{Names, read, group_count}
use Rattle.regex_syntax.specs.Captures.{SameCaptures}
use Rattle.regex_syntax.specs.Verdict.{Reads, Refuses, default_config}
use Rattle.regex_syntax.specs.declared.error.ErrorKind.{ErrorKind}
use Rattle.regex_syntax.specs.declared.error.ErrorKind.TheVariants.{OutOfMemory}
use Rattle.regex_syntax.specs.declared.Config.{Config}
use Rattle.regex.specs.Views.{builder_flags, with_flags}
use Rattle.regex.specs.declared.builder.RegexBuilder.{RegexBuilder}
use Rattle.px_subst.specs.declared.flags.Flags.{Flags}
use Rattle.px_subst.specs.JobFlags.{job_options}
use Rattle.px_subst.specs.Expressions.{deepest, job_expression, IsJobBuiltFrom}

-- what the grammar reads, where it nests no deeper than the library takes
abbrev taken : Option (Nested Re × Names) → Option Re
taken o = option_and_then (λ (written, names). if nat_le written.depth deepest then Some written.value else None) o

taken_is : (o : Option (Nested Re × Names)) (hir : Hir) (names : Names) →
    IsSomeAnd o (λ (re, found). (re.depth ≤ 250) × SameCaptures (meaning hir) re.value × (names ≡ found) × (group_count (meaning hir) ≤ length names)) →
    (written : Re) × (taken o ≡ Some written) × SameCaptures (meaning hir) written
taken_is None hir names x = absurd x
taken_is (Some re) hir names x = (re.0.value, cond-true _ _ _ (le-leb _ _ x.0), x.1)

in_text : (flags : Flags) (source : List ℕ) → IsUtf8 source → job_expression flags source ≡ taken (read (job_options flags) (chars source))
unfolding job_expression
in_text flags source utf8 = cond-true _ _ _ (is_utf8-from_IsUtf8 source utf8)

pub built_expression : (flags : Flags) (text : List ℕ) → IsUtf8 text → (config : Config) (source : List ℕ) (hir : Hir) (names : Names) →
    config ≡ job_options flags → source ≡ text → Reads config source hir names → IsJobBuiltFrom flags text (meaning hir)
unfolding Reads
built_expression flags text utf8 config source hir names is_config is_source reads =
    let is = taken_is (read (job_options flags) (chars text)) hir names (rw (is_config, is_source) at reads) in
    (is.0, in_text flags text utf8 ∙ is.1, is.2)

not_taken : (o : Option (Nested Re × Names)) → IfSome o (λ (re, found). 250 < re.depth) → taken o ≡ None
not_taken None x = refl
not_taken (Some re) x = cond-false _ _ _ (lt-leb re.0.depth 250 x)

pub refused_expression : (flags : Flags) (text : List ℕ) → IsUtf8 text → (config : Config) (source : List ℕ) (kind : ErrorKind) →
    config ≡ job_options flags → source ≡ text → kind ≢ OutOfMemory → Refuses config source kind → job_expression flags text ≡ None
unfolding Refuses
refused_expression flags text utf8 config source kind is_config is_source memory refuses =
    in_text flags text utf8
    ∙ (elim (rw (is_config, is_source) at refuses) [
      | inl is ↦ absurd (memory is)
      | inr other ↦ elim other [ inl none ↦ ap taken none | inr deep ↦ not_taken (read (job_options flags) (chars text)) deep.1 ]
    ])

-- bytes that aren't UTF-8 are no expression
pub no_expression : (flags : Flags) (pattern : List ℕ) → is_utf8 pattern ≡ false → job_expression flags pattern ≡ None
unfolding job_expression
no_expression flags pattern not_text = cond-false _ _ _ not_text

-- what the builder's six steps make of the options and the text
module _ (flags : Flags) (a b c d e f : RegexBuilder) (first : a.config ≡ default_config)
    (second : b ≡ with_flags a (record (builder_flags a) { case_insensitive = flags.any_case }))
    (third : c ≡ with_flags b (record (builder_flags b) { multi_line = flags.multi_line }))
    (fourth : d ≡ with_flags c (record (builder_flags c) { dot_matches_new_line = flags.dot_all }))
    (fifth : e ≡ with_flags d (record (builder_flags d) { swap_greed = flags.ungreedy }))
    (sixth : f ≡ with_flags e (record (builder_flags e) { ignore_whitespace = flags.spaced })) where
  pub options_of : record f.config { utf8 = false } ≡ job_options flags
  options_of =
      ap (λ (x : RegexBuilder). record x.config { utf8 = false }) sixth
      ∙ ap (λ (x : RegexBuilder). record x.config { flags = record x.config.flags { ignore_whitespace = flags.spaced }; utf8 = false }) fifth
      ∙ ap (λ (x : RegexBuilder). record x.config { flags = record x.config.flags { swap_greed = flags.ungreedy; ignore_whitespace = flags.spaced }; utf8 = false }) fourth
      ∙ ap (λ (x : RegexBuilder). record x.config { flags = record x.config.flags { dot_matches_new_line = flags.dot_all; swap_greed = flags.ungreedy; ignore_whitespace = flags.spaced }; utf8 = false }) third
      ∙ ap (λ (x : RegexBuilder). record x.config { flags = record x.config.flags { multi_line = flags.multi_line; dot_matches_new_line = flags.dot_all; swap_greed = flags.ungreedy; ignore_whitespace = flags.spaced }; utf8 = false }) second
      ∙ ap (λ (k : Config). record k { flags = record k.flags { case_insensitive = flags.any_case; multi_line = flags.multi_line; dot_matches_new_line = flags.dot_all; swap_greed = flags.ungreedy; ignore_whitespace = flags.spaced }; utf8 = false }) first

  pub source_of : f.source.now ≡ a.source.now
  source_of =
      ap (λ (x : RegexBuilder). x.source.now) sixth ∙ ap (λ (x : RegexBuilder). x.source.now) fifth ∙ ap (λ (x : RegexBuilder). x.source.now) fourth
      ∙ ap (λ (x : RegexBuilder). x.source.now) third ∙ ap (λ (x : RegexBuilder). x.source.now) second
