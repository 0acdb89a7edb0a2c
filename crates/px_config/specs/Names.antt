-- Which files a configuration is made of, and where they stand.
use Rattle.std.specs.Prelude.{ℕ, Bool, false, ◌==◌, List, [], ◌∷◌, ◌++◌, map, take, unwrap_or, Option, Some, None, codes, if◌then◌else◌}
use Rattle.px_text.specs.declared.lines.Line.{Line}
use Rattle.px_templates.specs.declared.pages.TheConstants.{PAGES}
use Rattle.px_templates.specs.Pages.{page_name}
use Rattle.px_config.specs.declared.names.Places.{Places}
use Rattle.px_config.specs.declared.names.TheConstants.{SLASH, FILES_OF_A_KIND}
use Rattle.px_config.specs.Directives.{last_value, list_files_of, values_of}

-- one byte more in front of a folder; without a folder, the empty one where the byte is a slash
abbrev pub in_front_of_folder : ℕ → Option (List ℕ) → Option (List ℕ)
in_front_of_folder b (Some folder) = Some (b ∷ folder)
in_front_of_folder b None = if b == SLASH then Some [] else None

-- the folder in which a file stands: the text before the last slash of its name, if there is one
unfoldable pub folder_of : List ℕ → Option (List ℕ)
folder_of [] = None
folder_of (b ∷ name) = in_front_of_folder b (folder_of name)

-- a folder and a name are joined by a slash; without a folder a name stands by itself
abbrev pub joined_path : Option (List ℕ) → List ℕ → List ℕ
joined_path None name = name
joined_path (Some folder) name = folder ++ SLASH ∷ name

abbrev pub is_rooted : List ℕ → Bool
is_rooted [] = false
is_rooted (b ∷ name) = b == SLASH

-- the name of a file as it is read: one that begins with a slash is used as written, any other stands in the folder
abbrev pub full_name : Option (List ℕ) → List ℕ → List ℕ
full_name folder name = if is_rooted name then name else joined_path folder name

abbrev pub or_else : Option (List ℕ) → Option (List ℕ) → Option (List ℕ)
or_else None other = other
or_else (Some folder) other = Some folder

-- where action files, filter files and lists of hosts stand: the last confdir, or the main file's folder
unfoldable pub confdir : List ℕ → List Line → Option (List ℕ)
confdir main lines = or_else (last_value (codes "confdir") lines) (folder_of main)

-- where templates and images stand: the last templdir, or `templates` in confdir
unfoldable pub templdir : List ℕ → List Line → List ℕ
templdir main lines = unwrap_or (last_value (codes "templdir") lines) (joined_path (confdir main lines) (codes "templates"))

-- the names of the action files and of the filter files; more than sixteen of a kind are refused, and aren't read
unfoldable pub action_names : List Line → List (List ℕ)
action_names lines = take FILES_OF_A_KIND (values_of (codes "actionsfile") lines)

unfoldable pub filter_names : List Line → List (List ℕ)
filter_names lines = take FILES_OF_A_KIND (values_of (codes "filterfile") lines)

-- and of the lists of hosts
unfoldable pub list_file_names : List Line → List (List ℕ)
list_file_names lines = take FILES_OF_A_KIND (list_files_of lines)

-- what the lines of the main file say of other files
abbrev pub places_of : List ℕ → List Line → Places
places_of main lines = record {
  action_files = action_names lines;
  filter_files = filter_names lines;
  host_lists = list_file_names lines;
  confdir = confdir main lines;
  templdir = templdir main lines;
}

-- the names of the templates, in the order of the pages
unfoldable pub page_names : List (List ℕ)
page_names = map page_name PAGES

-- the names of the two images
abbrev pub image_names : List (List ℕ)
image_names = codes "image-blank" ∷ codes "image-pattern" ∷ []

-- the names in the templates' folder
abbrev pub template_names : List (List ℕ)
template_names = page_names ++ image_names
