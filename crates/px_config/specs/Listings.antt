-- What the lists of hosts of a set give: each list with what it sets for its hosts, and notes, or the first fault.
use Rattle.std.specs.Prelude.{ℕ, ◌+◌, ◌||◌, nat_lt, List, [], ◌∷◌, ◌++◌, length, map, decimal, Option, Some, None, Result, Ok, codes, if◌then◌else◌}
use Rattle.px_base.specs.Results.{result_map}
use Rattle.px_base.specs.declared.files.Content.{Content}
use Rattle.px_base.specs.declared.files.Content.TheVariants as content
use Rattle.px_actions.specs.Updates.{word_update}
use Rattle.px_actions.specs.declared.changes.Change.{Change}
use Rattle.px_actions.specs.declared.kinds.Kind.{Kind}
use Rattle.px_action_files.specs.Faults.{Refused, and_then, at_line, refused, word_number}
use Rattle.px_action_files.specs.Meanings.{seen_update}
use Rattle.px_action_files.specs.declared.faults.FileFault.{FileFault}
use Rattle.px_action_files.specs.declared.faults.FileFault.TheVariants as at
use Rattle.px_host_lists.specs.Hosts.{first_listed}
use Rattle.px_host_lists.specs.Readings.{list_entries, list_notes, list_refusal}
use Rattle.px_host_lists.specs.declared.TheConstants.{BYTE_LIMIT, HOST_LIMIT}
use Rattle.px_host_lists.specs.declared.faults.ListFault.{ListFault}
use Rattle.px_host_lists.specs.declared.faults.ListFault.TheVariants as listing
use Rattle.px_host_lists.specs.declared.readings.ListNotes.{ListNotes}
use Rattle.px_merge.specs.declared.host_lists.ListedHosts.{ListedHosts}
use Rattle.px_config.specs.declared.listings.HostLists.{HostLists}
use Rattle.px_config.specs.declared.listings.HostsFile.{HostsFile}
use Rattle.px_config.specs.declared.listings.Totals.{Totals}
use Rattle.px_config.specs.declared.sets.FileSet.{FileSet}
use Rattle.px_config.specs.declared.settings.ListLine.{ListLine}
use Rattle.px_config.specs.declared.settings.Note.{Note}
use Rattle.px_config.specs.Faults.{Fault, at_file}
use Rattle.px_config.specs.Names.{full_name}
use Rattle.px_config.specs.Sets.{Item, content_in}

-- ---- the file of a list

-- what a file of hosts says: which of its lines names a host or a host above it, notes on its lines, and how many bytes it has
pub record HostsSeen : Type 0 where
  pub line_for : List ℕ → Option ℕ
  pub notes : ListNotes
  pub bytes : ℕ

-- a file with a byte or a host too many is refused at its line
abbrev pub hosts_or : Option ListFault → List ℕ → Result HostsSeen Refused
hosts_or None text = Ok (record { line_for = first_listed (list_entries text); notes = list_notes text; bytes = length text })
hosts_or (Some (listing.TooLong line)) text = refused line 31
hosts_or (Some (listing.TooMany line)) text = refused line 31
hosts_or (Some listing.Mem) text = refused 0 0

-- the hosts of a file: it is there and within the limits
unfoldable pub content_hosts : Content → Result HostsSeen Refused
content_hosts content.Missing = refused 0 32
content_hosts content.Over = refused 0 31
content_hosts (content.Found text) = hosts_or (list_refusal text) text

abbrev pub file_hosts : List Item → Option (List ℕ) → List ℕ → Result HostsSeen Refused
file_hosts items folder name = content_hosts (content_in items (full_name folder name))

-- ---- what a list sets

-- the word that blocks for a reason
abbrev pub block_word : List ℕ → List ℕ
block_word reason = codes "+block{" ++ reason ++ codes "}"

-- the update of that word, as in an actions file; a reason that is no parameter of it is refused at the line
unfoldable pub block_update : ListLine → Result (Kind × Change) Refused
block_update line = at_line line.number word_number (word_update (block_word line.reason))

-- ---- all lists

-- a list of hosts: the name of its file, what it sets, and which line names a host or a host above it
pub record ListSeen : Type 0 where
  pub name : List ℕ
  pub update : Kind × Change
  pub line_for : List ℕ → Option ℕ

-- lists of hosts, how many hosts and bytes they have together, and the notes so far
pub record ListsGiven : Type 0 where
  pub lists : List ListSeen
  pub totals : Totals
  pub notes : List Note

abbrev pub no_lists : List Note → ListsGiven
no_lists notes = record { lists = []; totals = record { hosts = 0; bytes = 0 }; notes = notes }

-- with a file's hosts and bytes; more than all lists may have together are refused at the line that names the file
unfoldable pub more_totals : ℕ → Totals → ℕ → ℕ → Result Totals Refused
more_totals line t hosts bytes =
    if nat_lt HOST_LIMIT (t.hosts + hosts) || nat_lt BYTE_LIMIT (t.bytes + bytes) then refused line 31
    else Ok (record { hosts = t.hosts + hosts; bytes = t.bytes + bytes })

-- the note on lines that name no host, at the first of them
abbrev pub note_at : List ℕ → ℕ → ℕ → Note
note_at name passed line = record { file = name; line = line; text = codes "lines that name no host: " ++ decimal passed }

-- where there are such lines, there is one note
abbrev pub note_on_lines : List ℕ → ℕ → Option ℕ → List Note
note_on_lines name passed None = []
note_on_lines name passed (Some line) = note_at name passed line ∷ []

abbrev pub file_notes : List ℕ → ListNotes → List Note
file_notes name notes = note_on_lines name notes.passed notes.first_passed

abbrev pub with_listed : ListsGiven → List ℕ → Kind × Change → HostsSeen → Totals → ListsGiven
with_listed given name update file totals = record {
  lists = given.lists ++ record { name = name; update = update; line_for = file.line_for } ∷ [];
  totals = totals;
  notes = given.notes ++ file_notes name file.notes;
}

-- with a list whose file was read, unless all lists have too much together
unfoldable pub with_hosts : List ℕ → ListsGiven → ListLine → Kind × Change → HostsSeen → Result ListsGiven Fault
with_hosts main given line update file =
    result_map (with_listed given line.name update file) (at_file main (more_totals line.number given.totals file.notes.taken file.bytes))

-- with the list of a line that sets this
unfoldable pub with_list_file : FileSet → Option (List ℕ) → ListsGiven → ListLine → Kind × Change → Result ListsGiven Fault
with_list_file set folder given line update = and_then (at_file line.name (file_hosts set.lists folder line.name)) (with_hosts set.main given line update)

-- with the list of a line
unfoldable pub with_list : FileSet → Option (List ℕ) → ListsGiven → ListLine → Result ListsGiven Fault
with_list set folder given line = and_then (at_file set.main (block_update line)) (with_list_file set folder given line)

-- the lists of these lines, or the first fault
unfoldable pub host_lists : FileSet → Option (List ℕ) → ListsGiven → List ListLine → Result ListsGiven Fault
host_lists set folder given [] = Ok given
host_lists set folder given (line ∷ lines) = and_then (with_list set folder given line) (λ after. host_lists set folder after lines)

-- ---- lists of the program as plain data

abbrev pub seen_list : ListedHosts → ListSeen
seen_list l = record { name = l.name; update = seen_update l.update; line_for = first_listed l.hosts }

abbrev pub seen_lists : HostLists → ListsGiven
seen_lists l = record { lists = map seen_list l.lists; totals = l.totals; notes = l.notes }

abbrev pub seen_hosts : HostsFile → HostsSeen
seen_hosts f = record { line_for = first_listed f.read.list; notes = f.read.notes; bytes = f.bytes }

-- the refusal of a list's file as it is reported
abbrev pub seen_list_fault : ListFault → FileFault
seen_list_fault (listing.TooLong line) = at.At line 31
seen_list_fault (listing.TooMany line) = at.At line 31
seen_list_fault listing.Mem = at.Mem
