-- What the filter files of a set give: their filters and the notes on jobs, or the first fault.
use Rattle.std.specs.Prelude.{ℕ, List, [], ◌∷◌, ◌++◌, map, Option, Result, Ok, Err, codes}
use Rattle.px_text.specs.declared.lines.Line.{Line}
use Rattle.px_action_files.specs.Faults.{Refused, and_then, refused}
use Rattle.px_action_files.specs.declared.faults.FileFault.{FileFault}
use Rattle.px_action_files.specs.declared.faults.FileFault.TheVariants as at
use Rattle.px_filter_files.specs.FilterFiles.{file_of}
use Rattle.px_filter_files.specs.declared.files.FilterFile.{FilterFile}
use Rattle.px_filter_files.specs.declared.faults.FilterFault.{FilterFault}
use Rattle.px_filter_files.specs.declared.faults.FilterFault.TheVariants as filtering
use Rattle.px_config.specs.declared.filters.FilterFiles.{FilterFiles}
use Rattle.px_config.specs.declared.settings.Note.{Note}
use Rattle.px_config.specs.Faults.{Fault, at_file}
use Rattle.px_config.specs.Parts.{file_lines}
use Rattle.px_config.specs.Sets.{Item}
use Rattle.px_base.specs.Results.{result_map}

-- the filters of lines, or their first refusal
abbrev pub filters_or : Result FilterFile FilterFault → Result FilterFile Refused
filters_or (Ok file) = Ok file
filters_or (Err (filtering.At line number)) = refused line number
filters_or (Err filtering.Mem) = refused 0 0

abbrev pub lines_filters : List Line → Result FilterFile Refused
lines_filters lines = filters_or (file_of lines)

-- the filters of a filter file
abbrev pub file_filters : List Item → Option (List ℕ) → List ℕ → Result FilterFile Refused
file_filters items folder name = and_then (file_lines items folder name) lines_filters

-- each job that isn't read is noted
abbrev pub skip_note : List ℕ → ℕ → Note
skip_note name line = record { file = name; line = line; text = codes "job skipped" }

abbrev pub with_filter_file : FilterFiles → List ℕ → FilterFile → FilterFiles
with_filter_file given name file = record { files = given.files ++ file ∷ []; notes = given.notes ++ map (skip_note name) file.skipped }

unfoldable pub with_filters : List Item → Option (List ℕ) → FilterFiles → List ℕ → Result FilterFiles Fault
with_filters items folder given name = result_map (with_filter_file given name) (at_file name (file_filters items folder name))

-- the filter files of these names, or the first fault
unfoldable pub filter_files : List Item → Option (List ℕ) → FilterFiles → List (List ℕ) → Result FilterFiles Fault
filter_files items folder given [] = Ok given
filter_files items folder given (name ∷ names) = and_then (with_filters items folder given name) (λ after. filter_files items folder after names)

-- the refusal of a filter file as it is reported
abbrev pub seen_filter_fault : FilterFault → FileFault
seen_filter_fault (filtering.At line number) = at.At line number
seen_filter_fault filtering.Mem = at.Mem
