-- The lines of a file that are patterns.
use Rattle.std.specs.Prelude.{ℕ, List, [], Result, Ok, Err}
use Rattle.std.specs.List.{flat_map}
use Rattle.px_text.specs.declared.lines.Line.{Line}
use Rattle.px_action_files.specs.Files.{HeadingSeen, alias_block, ignored_block, section_of_words, Lines, cut, heading_of}

-- the lines below a heading are patterns where it begins a section
abbrev pub patterns_under : Result HeadingSeen ℕ → List Line → List Line
patterns_under (Ok alias_block) body = []
patterns_under (Ok ignored_block) body = []
patterns_under (Ok (section_of_words text)) body = body
patterns_under (Err number) body = []

abbrev pub block_patterns : Lines → List Line
block_patterns b = patterns_under (heading_of b.heading.text) b.body

-- the lines that are patterns, in their order
unfoldable pub pattern_lines : List Line → List Line
pattern_lines lines = flat_map block_patterns (cut lines).blocks
