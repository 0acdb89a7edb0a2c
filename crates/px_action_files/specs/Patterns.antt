-- The patterns of sections (the manual's chapter on actions files, patterns).
use Rattle.std.specs.Prelude.{ℕ, Bool, true, false, nat_eq, if◌then◌else◌, List, [], ◌∷◌, ◌++◌, length, drop, Option, Some, None, Result, Ok, Err, codes}
use Rattle.std.specs.List.{starts_with}
use Rattle.std.specs.Str.{is_utf8}
use Rattle.px_text.specs.declared.lines.Line.{Line}
use Rattle.px_patterns.specs.Faults.{pattern_fault_number}
use Rattle.px_patterns.specs.Patterns.{expression_pattern, url_pattern, tag_pattern}
use Rattle.px_patterns.specs.declared.faults.PatternFault.{PatternFault}
use Rattle.px_patterns.specs.declared.faults.PatternFault.TheVariants as fault
use Rattle.px_patterns.specs.declared.patterns.TagPattern.{TagPattern}
use Rattle.px_patterns.specs.declared.patterns.UrlPattern.{UrlPattern}
use Rattle.px_action_files.specs.Faults.{Refused, at_line, and_then}
use Rattle.px_action_files.specs.declared.patterns.Pattern.{Pattern}
use Rattle.px_action_files.specs.declared.patterns.Pattern.TheVariants as pattern
use Rattle.px_action_files.specs.declared.patterns.SpokenTags.{SpokenTags}
use Rattle.px_action_files.specs.declared.patterns.SpokenTags.TheVariants as tags
use Rattle.px_base.specs.Results.{result_map}

-- the word with which the patterns of some tags begin
abbrev pub tags_word : SpokenTags → List ℕ
tags_word tags.Any = codes "TAG:"
tags_word tags.NoneOfRequest = codes "NO-REQUEST-TAG:"
tags_word tags.NoneOfResponse = codes "NO-RESPONSE-TAG:"
tags_word tags.OfClient = codes "CLIENT-TAG:"

abbrev pub begins : List ℕ → SpokenTags → Bool
begins text which = starts_with nat_eq text (tags_word which)

-- the tags of which a text speaks, if it begins with one of the words
unfoldable pub spoken_tags : List ℕ → Option SpokenTags
spoken_tags text =
    if begins text tags.Any then Some tags.Any
    else if begins text tags.NoneOfRequest then Some tags.NoneOfRequest
    else if begins text tags.NoneOfResponse then Some tags.NoneOfResponse
    else if begins text tags.OfClient then Some tags.OfClient
    else None

abbrev pub pattern_on : SpokenTags → TagPattern → Pattern
pattern_on tags.Any p = pattern.Tag p
pattern_on tags.NoneOfRequest p = pattern.NoRequestTag p
pattern_on tags.NoneOfResponse p = pattern.NoResponseTag p
pattern_on tags.OfClient p = pattern.ClientTag p

-- the word with which a URL pattern begins whose host is an expression
abbrev pub expression_word : List ℕ
expression_word = codes "PCRE-HOST-PATTERN:"

-- a URL pattern; what stands behind that word belongs to the expression, white space too
abbrev pub url_pattern_by : Bool → List ℕ → Result UrlPattern PatternFault
url_pattern_by true text = expression_pattern (drop (length expression_word) text)
url_pattern_by false text = url_pattern text

abbrev pub url_pattern_of : List ℕ → Result UrlPattern PatternFault
url_pattern_of text = url_pattern_by (starts_with nat_eq text expression_word) text

-- a tag pattern behind its word, or a URL pattern
abbrev pub pattern_by : Option SpokenTags → List ℕ → Result Pattern PatternFault
pattern_by None text = result_map pattern.Url (url_pattern_of text)
pattern_by (Some which) text = result_map (pattern_on which) (tag_pattern (drop (length (tags_word which)) text))

-- the pattern of a line; bytes that aren't UTF-8 are no expression
unfoldable pub line_pattern : List ℕ → Result Pattern PatternFault
line_pattern text = if is_utf8 text then pattern_by (spoken_tags text) text else Err fault.BadRegex

-- the patterns of lines behind those before them, or the first refusal
unfoldable pub patterns_of : List Line → List Pattern → Result (List Pattern) Refused
patterns_of [] before = Ok before
patterns_of (line ∷ lines) before =
    and_then (at_line line.number pattern_fault_number (line_pattern line.text)) (λ p. patterns_of lines (before ++ p ∷ []))
