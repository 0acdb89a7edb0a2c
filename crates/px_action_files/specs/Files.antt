-- Actions files: blocks of lines, each with a heading (the manual's chapter on actions files).
use Rattle.std.specs.Prelude.{ℕ, ◌-◌, ◌==◌, ◌||◌, Bool, true, false, not, if◌then◌else◌, List, [], ◌∷◌, ◌++◌, length, drop, Result, Ok, Err, codes}
use Rattle.std.specs.Str.{byte, str_eq_ignore_ascii_case}
use Rattle.px_base.specs.Blanks.{trimmed}
use Rattle.px_text.specs.declared.lines.Line.{Line}
use Rattle.px_actions.specs.Braces.{is_closed, words}
use Rattle.px_action_files.specs.Aliases.{words_updates, aliases_of}
use Rattle.px_action_files.specs.Faults.{Refused, refused, word_number, at_line, and_then}
use Rattle.px_action_files.specs.Meanings.{SectionSeen, AliasSeen}
use Rattle.px_action_files.specs.Patterns.{patterns_of}
use Rattle.px_action_files.specs.declared.patterns.Pattern.{Pattern}
use Rattle.px_actions.specs.declared.kinds.Kind.{Kind}
use Rattle.px_actions.specs.declared.changes.Change.{Change}
use Rattle.px_base.specs.Results.{result_map}
use Rattle.px_base.specs.Lists.{without_last}

-- ---- headings

-- a text begins with an open brace
abbrev pub begins_open : List ℕ → Bool
begins_open [] = false
begins_open (b ∷ rest) = b == byte "{"

abbrev pub is_heading : Line → Bool
is_heading line = begins_open line.text

-- what a heading begins: an alias block, a block without effect, or a section of these words
pub data HeadingSeen : Type 0 where
  alias_block : HeadingSeen
  ignored_block : HeadingSeen
  section_of_words : List ℕ → HeadingSeen

-- the text between the first byte and the last
abbrev pub between_ends : List ℕ → List ℕ
between_ends text = without_last (drop 1 text)

abbrev pub is_named : List ℕ → List ℕ → Bool
is_named name word = str_eq_ignore_ascii_case name word

-- the block of a name
abbrev pub block_named : List ℕ → Result HeadingSeen ℕ
block_named name =
    if is_named name (codes "alias") then Ok alias_block
    else if is_named name (codes "settings") || is_named name (codes "description") then Ok ignored_block
    else Err 44

-- what stands between the braces of a heading: a name in braces of its own, or words
abbrev pub heading_within : List ℕ → Result HeadingSeen ℕ
heading_within inner =
    if begins_open inner then block_named (trimmed (between_ends inner)) else Ok (section_of_words inner)

-- the heading of a text that begins with an open brace: its last byte is the brace that balances the first
unfoldable pub heading_of : List ℕ → Result HeadingSeen ℕ
heading_of text = if is_closed (drop 1 text) then heading_within (between_ends text) else Err 16

-- ---- blocks

-- a heading, and the lines up to the next heading
pub record Lines : Type 0 where
  pub heading : Line
  pub body : List Line

abbrev pub lines_under : Line → List Line → Lines
lines_under heading body = record { heading = heading; body = body }

-- the lines before the first heading, and the blocks
pub record Cut : Type 0 where
  pub front : List Line
  pub blocks : List Lines

abbrev pub with_cut_line : Line → Cut → Cut
with_cut_line line c =
    if is_heading line then record { front = []; blocks = lines_under line c.front ∷ c.blocks }
    else record { front = line ∷ c.front; blocks = c.blocks }

abbrev pub cut : List Line → Cut
cut [] = record { front = []; blocks = [] }
cut (line ∷ lines) = with_cut_line line (cut lines)

-- ---- what blocks give

-- what a file gave so far: whether its alias block came, that block's aliases, and the sections
pub record GivenSoFar : Type 0 where
  pub aliases_came : Bool
  pub known : List AliasSeen
  pub sections : List SectionSeen

abbrev pub with_aliases : GivenSoFar → List AliasSeen → GivenSoFar
with_aliases given aliases = record { aliases_came = true; known = aliases; sections = given.sections }

abbrev pub with_section : GivenSoFar → SectionSeen → GivenSoFar
with_section given s = record { aliases_came = given.aliases_came; known = given.known; sections = given.sections ++ s ∷ [] }

abbrev pub section_seen : ℕ → List (Kind × Change) → List Pattern → SectionSeen
section_seen line updates patterns = record { line = line; updates = updates; patterns = patterns }

-- the section of a heading's words and of the lines below it
unfoldable pub section_of : List AliasSeen → List ℕ → ℕ → List Line → Result SectionSeen Refused
section_of known text line body =
    and_then (at_line line word_number (words_updates known (words text) [])) (λ us. result_map (section_seen line us) (patterns_of body []))

-- an alias block is the only one, and stands before the first section
unfoldable pub alias_block_of : GivenSoFar → ℕ → List Line → Result (List AliasSeen) Refused
alias_block_of given line body =
    if given.aliases_came then refused line 18
    else if not (length given.sections == 0) then refused line 19
    else aliases_of body []

-- what a block adds
abbrev pub after_heading : GivenSoFar → ℕ → List Line → HeadingSeen → Result GivenSoFar Refused
after_heading given line body alias_block = result_map (with_aliases given) (alias_block_of given line body)
after_heading given line body ignored_block = Ok given
after_heading given line body (section_of_words text) = result_map (with_section given) (section_of given.known text line body)

unfoldable pub after_block : GivenSoFar → Lines → Result GivenSoFar Refused
after_block given b = and_then (at_line b.heading.number (λ number. number) (heading_of b.heading.text)) (after_heading given b.heading.number b.body)

-- what blocks add, or the first refusal
unfoldable pub after_blocks : List Lines → GivenSoFar → Result GivenSoFar Refused
after_blocks [] given = Ok given
after_blocks (b ∷ blocks) given = and_then (after_block given b) (after_blocks blocks)

-- ---- files

abbrev pub nothing_given : GivenSoFar
nothing_given = record { aliases_came = false; known = []; sections = [] }

abbrev pub behind_front : List Line → Result GivenSoFar Refused → Result GivenSoFar Refused
behind_front [] given = given
behind_front (line ∷ lines) given = refused line.number 17

-- the sections of a file, or its first refusal: a line before the first heading comes first
unfoldable pub file_sections : List Line → Result (List SectionSeen) Refused
file_sections lines = result_map (λ given. given.sections) (behind_front (cut lines).front (after_blocks (cut lines).blocks nothing_given))
