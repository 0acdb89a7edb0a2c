-- Forward lines (Privoxy's manual, "The Main Configuration File", forward and forward-socks5).
use Rattle.std.specs.Prelude.{◌≡◌, ℕ, ◌||◌, ◌==◌, Bool, not, List, [], ◌∷◌, ◌++◌, length, drop, Option, Some, None, Result, Ok, Err, option_map, is_some, if◌then◌else◌}
use Rattle.std.specs.List.{before_first, after_first, list_any, prefix_len}
use Rattle.px_base.specs.Blanks.{is_blank, trimmed}
use Rattle.px_patterns.specs.declared.patterns.UrlPattern.{UrlPattern}
use Rattle.px_patterns.specs.declared.faults.PatternFault.{PatternFault}
use Rattle.px_patterns.specs.Patterns.{url_pattern}
use Rattle.px_patterns.specs.Faults.{pattern_fault_number}
use Rattle.px_actions.specs.Hops.{NextHop, next_hop}
use Rattle.px_base.specs.DialNames.{Server}
use Rattle.px_decide.specs.declared.faults.ForwardFault.{ForwardFault}
use Rattle.px_decide.specs.declared.faults.ForwardFault.TheVariants as fault
use Rattle.px_decide.specs.Servers.{named_server}

-- which requests a line is for, through which SOCKS server it sends them, if through one, and where
pub record Line : Type 0 where
  pub pattern : UrlPattern
  pub server : Option Server
  pub hop : NextHop

-- one word: not empty, and without white space in it
abbrev pub is_word : List ℕ → Bool
is_word text = not (length text == 0 || list_any is_blank text)

-- what stands before the first white space of a text, and what stands behind it without white space around that
abbrev pub parted_text : List ℕ → List ℕ × List ℕ
parted_text text = (before_first is_blank text, trimmed (after_first is_blank text))

-- the first word of a value, and what stands behind it
unfoldable pub first_word : List ℕ → List ℕ × List ℕ
first_word value = parted_text (drop (prefix_len is_blank value) value)

-- a word, and what stands behind it where that is one word too
abbrev pub two : List ℕ × List ℕ → Option (List ℕ × List ℕ)
two words = if is_word words.1 then Some words else None

-- the two words of a text without white space at its front
abbrev pub words_of : List ℕ → Option (List ℕ × List ℕ)
words_of text = two (parted_text text)

-- the two words of a value, if it has just two
unfoldable pub two_words : List ℕ → Option (List ℕ × List ℕ)
two_words value = two (first_word value)

-- the three words of a value, if it has just three
unfoldable pub three_words : List ℕ → Option (List ℕ × (List ℕ × List ℕ))
three_words value = option_map (λ words. ((first_word value).0, words)) (words_of (first_word value).1)

-- the line of a server, if there is one, a next hop and a pattern, or the refusal of the pattern
abbrev pub with_pattern : Option Server → NextHop → Result UrlPattern PatternFault → Result Line ForwardFault
with_pattern server hop (Ok pattern) = Ok (record { pattern = pattern; server = server; hop = hop })
with_pattern server hop (Err refusal) = Err (fault.Pattern (pattern_fault_number refusal))

abbrev pub with_hop : Option Server → List ℕ → Option NextHop → Result Line ForwardFault
with_hop server pattern None = Err fault.Bad
with_hop server pattern (Some hop) = with_pattern server hop (url_pattern pattern)

abbrev pub of_words : Option (List ℕ × List ℕ) → Result Line ForwardFault
of_words None = Err fault.Bad
of_words (Some words) = with_hop None words.0 (next_hop words.1)

-- the line for which a value of `forward` stands, or its refusal: two words, of which the second is a next hop and the first a
-- pattern
unfoldable pub forward_line : List ℕ → Result Line ForwardFault
forward_line value = of_words (two_words value)

abbrev pub with_server : List ℕ → List ℕ → Option Server → Result Line ForwardFault
with_server pattern hop None = Err fault.Bad
with_server pattern hop (Some server) = with_hop (Some server) pattern (next_hop hop)

abbrev pub of_socks_words : Option (List ℕ × (List ℕ × List ℕ)) → Result Line ForwardFault
of_socks_words None = Err fault.Bad
of_socks_words (Some words) = with_server words.0 words.1.1 (named_server words.1.0)

-- the line for which a value of `forward-socks5` stands, or its refusal: three words, of which the second names a server, the
-- third is a next hop and the first a pattern
unfoldable pub socks_line : List ℕ → Result Line ForwardFault
socks_line value = of_socks_words (three_words value)

-- a line sends requests through a SOCKS server
abbrev pub has_socks : List Line → Bool
has_socks lines = list_any (λ (line : Line). is_some line.server) lines

-- the number under which a refusal is printed
abbrev pub forward_fault_number : ForwardFault → ℕ
forward_fault_number fault.Bad = 29
forward_fault_number (fault.Pattern number) = number
forward_fault_number fault.Mem = 0

-- the refusal is the value's, or want of memory, which has no cause there
abbrev pub IsForwardRefusal : Result Line ForwardFault → ForwardFault → Type 0
IsForwardRefusal meaning fault.Bad = meaning ≡ Err fault.Bad
IsForwardRefusal meaning (fault.Pattern number) = meaning ≡ Err (fault.Pattern number)
IsForwardRefusal meaning fault.Mem = Unit {0}

-- the line goes last
abbrev pub AddsLine : List Line → Result Line ForwardFault → List Line → Type 0
AddsLine old (Ok line) new = new ≡ old ++ line ∷ []
AddsLine old (Err refusal) new = ⊥
