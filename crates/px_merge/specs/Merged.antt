-- Lists of hosts, and the sections of actions files, one file after another.
use Rattle.std.specs.Prelude.{ℕ, ◌+◌, List, [], ◌∷◌, ◌++◌, length, map}
use Rattle.px_action_files.specs.declared.files.ActionFile.{ActionFile}
use Rattle.px_action_files.specs.declared.sections.Section.{Section}
use Rattle.px_merge.specs.declared.host_lists.ListedHosts.{ListedHosts}
use Rattle.px_merge.specs.declared.places.Placed.{Placed}

-- lists of hosts, the names of files, and their sections in file order
pub record Merged : Type 0 where
  pub lists : List ListedHosts
  pub names : List (List ℕ)
  pub sections : List Placed

-- a section of the file with a number
abbrev pub placed : ℕ → Section → Placed
placed number section = record { file = number; section = section }

-- the sections of files in file order, where the first file has a number
abbrev pub sections_from : ℕ → List (List ℕ × ActionFile) → List Placed
sections_from number [] = []
sections_from number (file ∷ files) = map (placed number) file.1.sections ++ sections_from (number + 1) files

-- the sections of files in file order; files are counted from 0
abbrev pub sections_of : List (List ℕ × ActionFile) → List Placed
sections_of files = sections_from 0 files

-- the names of the files of lists
abbrev pub list_names : List ListedHosts → List (List ℕ)
list_names lists = map (λ l. l.name) lists

abbrev pub names_of : List (List ℕ × ActionFile) → List (List ℕ)
names_of files = map (λ file. file.0) files

-- how many patterns stand in sections
abbrev pub pattern_count : List Placed → ℕ
pattern_count [] = 0
pattern_count (p ∷ sections) = length p.section.patterns + pattern_count sections
