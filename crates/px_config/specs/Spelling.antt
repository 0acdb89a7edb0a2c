-- What a set of files stands for: a configuration, or its first fault.
use Rattle.std.specs.Prelude.{ℕ, ◌+◌, Bool, List, [], ◌∷◌, ◌++◌, length, map, Option, Some, None, option_map, Result, Ok, Err, codes}
use Rattle.px_text.specs.declared.lines.Line.{Line}
use Rattle.px_action_files.specs.Faults.{and_then}
use Rattle.px_action_files.specs.Meanings.{SectionSeen, seen_section}
use Rattle.px_decide.specs.Forwards.{Line as ForwardLine}
use Rattle.px_filter_files.specs.FilterFiles.{FiltersOfFiles, filters_of_all}
use Rattle.px_filter_files.specs.declared.files.FilterFile.{FilterFile}
use Rattle.px_merge.specs.Merged.{Merged}
use Rattle.px_merge.specs.declared.places.Placed.{Placed}
use Rattle.px_templates.specs.Pieces.{Piece}
use Rattle.px_templates.specs.declared.pages.TheConstants.{PAGES}
use Rattle.px_config.specs.declared.configs.Config.{Config}
use Rattle.px_config.specs.declared.sets.FileSet.{FileSet}
use Rattle.px_config.specs.declared.settings.Note.{Note}
use Rattle.px_config.specs.declared.settings.Settings.{Settings}
use Rattle.px_config.specs.Faults.{Fault, at_file}
use Rattle.px_config.specs.Mains.{main_of, main_parts}
use Rattle.px_config.specs.Names.{places_of, template_names}
use Rattle.px_config.specs.Actions.{ActionsGiven, ActionsSeen, action_files, no_actions}
use Rattle.px_config.specs.Filters.{filter_files}
use Rattle.px_config.specs.Listings.{ListSeen, ListsGiven, host_lists, no_lists, seen_list}
use Rattle.px_config.specs.Pages.{all_fit, pages_of, text_in}
use Rattle.px_config.specs.Parts.{file_lines}
use Rattle.px_config.specs.Sets.{Item, all_included}
use Rattle.px_config.specs.declared.filters.FilterFiles.{FilterFiles}
use Rattle.px_config.specs.declared.names.Places.{Places}
use Rattle.px_config.specs.declared.settings.MainParts.{MainParts}
use Rattle.px_base.specs.Results.{result_map}

-- ---- what a configuration is

-- a section, and the number of its file, counted from 0
pub record PlacedSeen : Type 0 where
  pub file : ℕ
  pub section : SectionSeen

-- lists of hosts, the names of the action files, and their sections in file order
pub record SectionsSeen : Type 0 where
  pub lists : List ListSeen
  pub names : List (List ℕ)
  pub sections : List PlacedSeen

-- a configuration as plain data
pub record ConfigSeen : Type 0 where
  pub settings : Settings
  pub sections : SectionsSeen
  pub filters : FiltersOfFiles
  pub forwards : List ForwardLine
  pub pages : List (List Piece)
  pub image_blank : Option (List ℕ)
  pub image_pattern : Option (List ℕ)
  pub notes : List Note

abbrev pub placed_seen : ℕ → SectionSeen → PlacedSeen
placed_seen number section = record { file = number; section = section }

-- the sections of files in file order, where the first file has a number
abbrev pub placed_from : ℕ → List ActionsSeen → List PlacedSeen
placed_from number [] = []
placed_from number (file ∷ files) = map (placed_seen number) file.1 ++ placed_from (number + 1) files

abbrev pub sections_seen : List ListSeen → List ActionsSeen → SectionsSeen
sections_seen lists files = record { lists = lists; names = map (λ file. file.0) files; sections = placed_from 0 files }

abbrev pub filters_seen : List FilterFile → FiltersOfFiles
filters_seen files = record { files = length files; filters = filters_of_all files }

-- ---- what a set stands for

-- the configuration of the parts; the notes are those of the main file, of the lists of hosts and of the filter files
abbrev pub config_of : List Item → List ℕ → Settings → List ForwardLine → ActionsGiven → FilterFiles → List (List Piece) → ConfigSeen
config_of items folder settings forwards actions filters pages = record {
  settings = settings;
  sections = sections_seen actions.lists actions.files;
  filters = filters_seen filters.files;
  forwards = forwards;
  pages = pages;
  image_blank = text_in items folder (codes "image-blank");
  image_pattern = text_in items folder (codes "image-pattern");
  notes = filters.notes;
}

-- no filter file was read
abbrev pub no_filters : List Note → FilterFiles
no_filters notes = record { files = []; notes = notes }

-- 6. the templates, the two images and the included texts are within the limit
abbrev pub sizes : List Item → List ℕ → Result (Unit {0}) Fault
sizes items folder = and_then (all_fit items folder template_names) (λ done. all_fit items folder (all_included items folder))

-- 7. the templates are read
unfoldable pub behind_sizes : List Item → List ℕ → Settings → List ForwardLine → ActionsGiven → FilterFiles → Result ConfigSeen Fault
behind_sizes items folder settings forwards actions filters = result_map (config_of items folder settings forwards actions filters) (pages_of items folder [] PAGES)

unfoldable pub behind_filters : List Item → List ℕ → Settings → List ForwardLine → ActionsGiven → FilterFiles → Result ConfigSeen Fault
behind_filters items folder settings forwards actions filters = and_then (sizes items folder) (λ done. behind_sizes items folder settings forwards actions filters)

-- 5. the filter files
unfoldable pub behind_actions : FileSet → Places → Settings → List ForwardLine → List Note → ActionsGiven → Result ConfigSeen Fault
behind_actions set places settings forwards notes actions =
    and_then (filter_files set.items places.confdir (no_filters notes) places.filter_files)
    (behind_filters set.items places.templdir settings forwards actions)

-- 4. the action files
unfoldable pub behind_lists : FileSet → Places → Settings → List ForwardLine → ListsGiven → Result ConfigSeen Fault
behind_lists set places settings forwards given =
    and_then (action_files set.items places.confdir settings.pattern_limit (no_actions given.lists) places.action_files)
    (behind_actions set places settings forwards given.notes)

-- 3. the lists of hosts
unfoldable pub behind_main : FileSet → Places → MainParts → Result ConfigSeen Fault
behind_main set places parts = and_then (host_lists set places.confdir (no_lists parts.notes) parts.lists) (behind_lists set places parts.settings parts.forwards)

-- 2. the lines of the main file
unfoldable pub behind_lines : FileSet → List Line → Result ConfigSeen Fault
behind_lines set lines = and_then (at_file set.main (main_of set.main lines)) (λ m. behind_main set (places_of set.main lines) (main_parts m))

-- the configuration for which a set stands, or the first fault: 1. the main file and its lines
unfoldable pub spelled : FileSet → Result ConfigSeen Fault
spelled set = and_then (at_file set.main (file_lines set.items None set.main)) (behind_lines set)

-- ---- configurations of the program as plain data

abbrev pub seen_placed : Placed → PlacedSeen
seen_placed p = record { file = p.file; section = seen_section p.section }

abbrev pub seen_sections : Merged → SectionsSeen
seen_sections m = record { lists = map seen_list m.lists; names = m.names; sections = map seen_placed m.sections }

abbrev pub seen_config : Config → ConfigSeen
seen_config c = record {
  settings = c.settings;
  sections = seen_sections c.sections;
  filters = c.filters;
  forwards = c.forwards;
  pages = c.pages;
  image_blank = c.image_blank;
  image_pattern = c.image_pattern;
  notes = c.notes;
}
