-- What the action files of a set give: their sections, or the first fault.
use Rattle.std.specs.Prelude.{ℕ, ◌+◌, ◌-◌, List, [], ◌∷◌, ◌++◌, length, map, sum_by, Option, Some, None, Result, Ok}
use Rattle.std.specs.List.{slice_get}
use Rattle.px_text.specs.declared.lines.Line.{Line}
use Rattle.px_action_files.specs.Faults.{Refused, and_then, refused}
use Rattle.px_action_files.specs.Files.{file_sections}
use Rattle.px_action_files.specs.Meanings.{SectionSeen, seen_section}
use Rattle.px_action_files.specs.PatternLines.{pattern_lines}
use Rattle.px_action_files.specs.declared.files.ActionFile.{ActionFile}
use Rattle.px_config.specs.declared.actions.ActionFiles.{ActionFiles}
use Rattle.px_config.specs.Faults.{Fault, at_file}
use Rattle.px_config.specs.Listings.{ListSeen, seen_list}
use Rattle.px_config.specs.Parts.{file_lines}
use Rattle.px_config.specs.Sets.{Item}
use Rattle.px_base.specs.Results.{result_map}

-- the pattern that passes the limit is refused at its line
abbrev pub within : {X : Type 0} → Option Line → X → Result X Refused
within None sections = Ok sections
within (Some line) sections = refused line.number 31

-- the sections of lines, where all files may have so many patterns, and files before them have some
unfoldable pub limited_sections : ℕ → ℕ → List Line → Result (List SectionSeen) Refused
limited_sections limit so_far lines = and_then (file_sections lines) (within (slice_get (pattern_lines lines) (limit - so_far)))

-- an actions file by its name, and its sections
abbrev pub ActionsSeen : Type 0
ActionsSeen = List ℕ × List SectionSeen

-- lists of hosts, action files, and how many patterns these have
pub record ActionsGiven : Type 0 where
  pub lists : List ListSeen
  pub files : List ActionsSeen
  pub patterns : ℕ

-- lists of hosts were read, and no action file
abbrev pub no_actions : List ListSeen → ActionsGiven
no_actions lists = record { lists = lists; files = []; patterns = 0 }

abbrev pub pattern_total : List SectionSeen → ℕ
pattern_total sections = sum_by (λ s. length s.patterns) sections

abbrev pub with_sections : ActionsGiven → List ℕ → List SectionSeen → ActionsGiven
with_sections given name sections = record { lists = given.lists; files = given.files ++ (name, sections) ∷ []; patterns = given.patterns + pattern_total sections }

-- the sections of an actions file, where files before it have so many patterns
abbrev pub file_actions : List Item → Option (List ℕ) → ℕ → ℕ → List ℕ → Result (List SectionSeen) Refused
file_actions items folder limit so_far name = and_then (file_lines items folder name) (limited_sections limit so_far)

unfoldable pub with_actions : List Item → Option (List ℕ) → ℕ → ActionsGiven → List ℕ → Result ActionsGiven Fault
with_actions items folder limit given name = result_map (with_sections given name) (at_file name (file_actions items folder limit given.patterns name))

-- the action files of these names, which may have so many patterns together, or the first fault
unfoldable pub action_files : List Item → Option (List ℕ) → ℕ → ActionsGiven → List (List ℕ) → Result ActionsGiven Fault
action_files items folder limit given [] = Ok given
action_files items folder limit given (name ∷ names) =
    and_then (with_actions items folder limit given name) (λ after. action_files items folder limit after names)

-- action files of the program as plain data
abbrev pub seen_file : List ℕ × ActionFile → ActionsSeen
seen_file file = (file.0, map seen_section file.1.sections)

abbrev pub seen_actions : ActionFiles → ActionsGiven
seen_actions a = record { lists = map seen_list a.lists; files = map seen_file a.files; patterns = a.patterns }
