-- The lines of a file of a set, or a refusal.
use Rattle.std.specs.Prelude.{ℕ, List, Option, Some, None, Result, Ok}
use Rattle.px_base.specs.declared.files.Content.{Content}
use Rattle.px_base.specs.declared.files.Content.TheVariants as content
use Rattle.px_text.specs.declared.lines.Line.{Line}
use Rattle.px_text.specs.Faults.{first_text_fault}
use Rattle.px_text.specs.Lines.{logical}
use Rattle.px_text.specs.declared.faults.TextFault.{TextFault}
use Rattle.px_text.specs.declared.faults.TextFault.TheVariants as text
use Rattle.px_action_files.specs.Faults.{Refused, refused}
use Rattle.px_action_files.specs.declared.faults.FileFault.{FileFault}
use Rattle.px_action_files.specs.declared.faults.FileFault.TheVariants as at
use Rattle.px_config.specs.Names.{full_name}
use Rattle.px_config.specs.Sets.{Item, content_in}

-- the lines of a text, or its first refusal
abbrev pub lines_or : Option TextFault → List Line → Result (List Line) Refused
lines_or None lines = Ok lines
lines_or (Some (text.NotText line)) lines = refused line 1
lines_or (Some (text.TooLong line)) lines = refused line 2
lines_or (Some text.Mem) lines = Ok lines

-- the lines of a file: it is there, within the limit, and of lines that can be read
unfoldable pub content_lines : Content → Result (List Line) Refused
content_lines content.Missing = refused 0 32
content_lines content.Over = refused 0 31
content_lines (content.Found bytes) = lines_or (first_text_fault bytes) (logical bytes)

abbrev pub file_lines : List Item → Option (List ℕ) → List ℕ → Result (List Line) Refused
file_lines items folder name = content_lines (content_in items (full_name folder name))

-- the refusal of a text as it is reported
abbrev pub seen_text_fault : TextFault → FileFault
seen_text_fault (text.NotText line) = at.At line 1
seen_text_fault (text.TooLong line) = at.At line 2
seen_text_fault text.Mem = at.Mem
