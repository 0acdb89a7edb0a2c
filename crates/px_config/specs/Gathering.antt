-- Which files are read, and what of them is kept.
use Rattle.std.specs.Prelude.{◌≡◌, ℕ, ◌+◌, ◌≤◌, ◌||◌, not, Bool, Contains, List, [], ◌∷◌, ◌++◌, length, Option, Some, Result, Ok, Err, MatchResult, IsTrue, if◌then◌else◌}
use Rattle.std.specs.Str.{is_utf8}
use Rattle.px_base.specs.Causes.{Rose}
use Rattle.px_base.specs.Contents.{Contents, FilesState, Unchanged, content_of}
use Rattle.px_base.specs.declared.files.Content.{Content}
use Rattle.px_text.specs.declared.lines.Line.{Line}
use Rattle.px_config.specs.declared.faults.LoadFault.{LoadFault}
use Rattle.px_config.specs.declared.faults.LoadFault.TheVariants as fault
use Rattle.px_config.specs.declared.sets.FileSet.{FileSet}
use Rattle.px_config.specs.declared.sets.TheConstants.{FILE_LIMIT, LIST_LIMIT}
use Rattle.px_action_files.specs.Faults.{Refused}
use Rattle.px_config.specs.declared.names.Places.{Places}
use Rattle.px_config.specs.Names.{full_name, places_of, template_names}
use Rattle.px_config.specs.Parts.{content_lines}
use Rattle.px_config.specs.Sets.{Item, all_included, is_in}

-- a file with what it holds, up to a limit
abbrev pub item_of : ℕ → Contents → List ℕ → Item
item_of limit contents name = (name, content_of limit (contents name))

-- a name isn't read again, and one that isn't UTF-8 names no file
abbrev pub with_item : ℕ → Contents → List Item → List ℕ → List Item
with_item limit contents items name = if is_in items name || not (is_utf8 name) then items else items ++ item_of limit contents name ∷ []

-- with the files of these names in a folder, each read once and up to a limit
unfoldable pub with_files : ℕ → Contents → Option (List ℕ) → List Item → List (List ℕ) → List Item
with_files limit contents folder items [] = items
with_files limit contents folder items (name ∷ names) = with_files limit contents folder (with_item limit contents items (full_name folder name)) names

-- the main file, and the files that its lines name: action files, filter files, and then templates and images
unfoldable pub named_items : Contents → List ℕ → Places → List Item
named_items contents main places =
    let files = with_files FILE_LIMIT contents places.confdir (item_of FILE_LIMIT contents main ∷ []) (places.action_files ++ places.filter_files) in
    with_files FILE_LIMIT contents (Some places.templdir) files template_names

-- and the texts that the templates include
unfoldable pub all_items : Contents → List ℕ → Places → List Item
all_items contents main places =
    let items = named_items contents main places in
    with_files FILE_LIMIT contents (Some places.templdir) items (all_included items places.templdir)

-- the lists of hosts that the lines name; they have a limit of their own
unfoldable pub all_lists : Contents → Places → List Item
all_lists contents places = with_files LIST_LIMIT contents places.confdir [] places.host_lists

-- the set of a main file of this name, by what its lines say of other files
abbrev pub set_behind : Contents → List ℕ → Places → FileSet
set_behind contents main places = record { main = main; items = all_items contents main places; lists = all_lists contents places }

-- a main file whose lines can't be read names no other file
abbrev pub items_by : Contents → List ℕ → Result (List Line) Refused → List Item
items_by contents main (Ok lines) = all_items contents main (places_of main lines)
items_by contents main (Err refusal) = item_of FILE_LIMIT contents main ∷ []

-- nor a list of hosts
abbrev pub lists_by : Contents → List ℕ → Result (List Line) Refused → List Item
lists_by contents main (Ok lines) = all_lists contents (places_of main lines)
lists_by contents main (Err refusal) = []

-- the files of a configuration, and what each holds: each file once, and each list of hosts once, in the order in which it is named first
unfoldable pub gathered : Contents → List ℕ → FileSet
gathered contents main =
    let lines = content_lines (content_of FILE_LIMIT (contents main)) in
    record { main = main; items = items_by contents main lines; lists = lists_by contents main lines }

-- files that were only read
pub record OnlyReads (old new : FilesState) : Type 0 where
  pub tells_same : new.tells ≡ old.tells
  pub tells_later_same : new.tells_later ≡ old.tells_later
  pub unchanged : IsTrue old.tells → Unchanged old.contents new.contents
  pub later_same : IsTrue old.tells_later → new.later ≡ old.later
  pub put_faults_same : new.put_faults ≡ old.put_faults
  pub puts_same : new.puts ≡ old.puts
  pub turns_same : new.turns ≡ old.turns

-- no more files were read than there are items more
abbrev pub ReadsEach : FilesState → FilesState → List Item → List Item → Type 0
ReadsEach old new before after = new.reads + length before ≤ old.reads + length after

-- no more files were read than a set has items and lists more
abbrev pub ReadsSet : FilesState → FilesState → List Item → FileSet → Type 0
ReadsSet old new before set = new.reads + length before ≤ old.reads + (length set.items + length set.lists)

-- why files weren't gathered: the count of faults rose in a read, or memory was wanting and no read had failed
abbrev pub GatherCause : ℕ → ℕ → LoadFault → Type 0
GatherCause before now (fault.Spelled file line number) = ⊥
GatherCause before now (fault.Read file) = Rose before now
GatherCause before now fault.Mem = now ≡ before

-- the count is as before where the files were read
abbrev pub GatherCauses : {T : Type 0} → FilesState → FilesState → Result T LoadFault → Type 0
GatherCauses old new result = MatchResult result (λ _. new.read_faults ≡ old.read_faults) (λ f. GatherCause old.read_faults new.read_faults f)

-- the fault names the file that couldn't be read as it is written; want of memory has no cause
abbrev pub IsReadFault : List ℕ → LoadFault → Type 0
IsReadFault written (fault.Spelled file line number) = ⊥
IsReadFault written (fault.Read file) = file ≡ written
IsReadFault written fault.Mem = Unit {0}

-- the names that the main file's lines and the templates give of files that are no lists of hosts, as they are written there and
-- in the order in which their files are read: action files, filter files, templates and images, and the texts that the templates include
unfoldable pub names_behind : Contents → List ℕ → Places → List (List ℕ)
names_behind contents main places =
    (places.action_files ++ places.filter_files) ++ (template_names ++ all_included (named_items contents main places) places.templdir)

-- and then the lists of hosts
abbrev pub names_with_lists : Contents → List ℕ → Places → List (List ℕ)
names_with_lists contents main places = names_behind contents main places ++ places.host_lists

-- a main file whose lines can't be read names no other file
abbrev pub names_by : Contents → List ℕ → Result (List Line) Refused → List (List ℕ)
names_by contents main (Ok lines) = names_with_lists contents main (places_of main lines)
names_by contents main (Err refusal) = []

-- the names of the files that a configuration is made of: that of the main file, and those that the files give
unfoldable pub names_read : Contents → List ℕ → List (List ℕ)
names_read contents main = main ∷ names_by contents main (content_lines (content_of FILE_LIMIT (contents main)))

-- the file that couldn't be read has one of these names
abbrev pub ReadsOneOf : List (List ℕ) → LoadFault → Type 0
ReadsOneOf names (fault.Spelled file line number) = Unit {0}
ReadsOneOf names (fault.Read file) = Contains names file
ReadsOneOf names fault.Mem = Unit {0}
