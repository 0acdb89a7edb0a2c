-- The main file: its lines, and what they say of other files.
use Rattle.std.specs.Prelude.{◌≡◌, ℕ, List, [], take, unwrap_or, None, Result, Ok, MatchResult, codes}
use Rattle.px_text.specs.declared.lines.Line.{Line}
use Rattle.px_action_files.specs.Faults.{IsReported, Refused}
use Rattle.px_action_files.specs.declared.faults.FileFault.{FileFault}
use Rattle.px_config.specs.declared.main_files.MainFile.{MainFile}
use Rattle.px_config.specs.declared.main_files.Named.{Named}
use Rattle.px_config.specs.declared.names.Places.{Places}
use Rattle.px_config.specs.declared.names.TheConstants.{FILES_OF_A_KIND}
use Rattle.px_config.specs.Directives.{list_file_given, value_given, with_given_value}
use Rattle.px_config.specs.Names.{folder_of, joined_path, or_else, places_of}

-- ---- the lines that name files and folders

-- no line names a file or a folder
abbrev pub nothing_named : Named
nothing_named = record { action_files = []; filter_files = []; host_lists = []; confdir = None; templdir = None }

-- with what a line of this name and value names; the last folder counts
abbrev pub with_named : List ℕ → List ℕ → Named → Named
with_named name value n = record {
  action_files = with_given_value n.action_files (value_given (codes "actionsfile") name value);
  filter_files = with_given_value n.filter_files (value_given (codes "filterfile") name value);
  host_lists = with_given_value n.host_lists (list_file_given name value);
  confdir = or_else (value_given (codes "confdir") name value) n.confdir;
  templdir = or_else (value_given (codes "templdir") name value) n.templdir;
}

-- where the files stand, by what all lines name
abbrev pub places_with : List ℕ → Named → Places
places_with main n =
    let folder = or_else n.confdir (folder_of main) in record {
      action_files = take FILES_OF_A_KIND n.action_files;
      filter_files = take FILES_OF_A_KIND n.filter_files;
      host_lists = take FILES_OF_A_KIND n.host_lists;
      confdir = folder;
      templdir = unwrap_or n.templdir (joined_path folder (codes "templates"));
    }

-- ---- the main file

-- what was read is the lines, and what they say of other files, or the refusal of the whole file
abbrev pub IsMainOf : List ℕ → Result (List Line) Refused → Result MainFile FileFault → Type 0
IsMainOf main lines read = MatchResult read (λ m. (lines ≡ Ok m.lines) × (m.places ≡ places_of main m.lines)) (IsReported lines)
