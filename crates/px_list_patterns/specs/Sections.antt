-- Lists of hosts as sections with the URL patterns of their hosts.
use Rattle.std.specs.Prelude.{ℕ, List, [], ◌∷◌, ◌++◌, Result, Ok, Err}
use Rattle.std.specs.List.{flat_map}
use Rattle.px_host_lists.specs.Hosts.{HostEntry, SameLines}
use Rattle.px_host_lists.specs.Readings.{list_entries}
use Rattle.px_patterns.specs.Patterns.{url_pattern}
use Rattle.px_patterns.specs.declared.faults.PatternFault.{PatternFault}
use Rattle.px_patterns.specs.declared.patterns.UrlPattern.{UrlPattern}
use Rattle.px_actions.specs.declared.updates.Update.{Update}
use Rattle.px_action_files.specs.declared.patterns.Pattern.{Pattern}
use Rattle.px_action_files.specs.declared.patterns.Pattern.TheVariants as pattern
use Rattle.px_merge.specs.Merged.{Merged}
use Rattle.px_merge.specs.declared.host_lists.ListedHosts.{ListedHosts}
use Rattle.px_merge.specs.declared.places.Placed.{Placed}

-- a URL pattern, if it is read
abbrev pub read_pattern : Result UrlPattern PatternFault → List Pattern
read_pattern (Ok p) = pattern.Url p ∷ []
read_pattern (Err fault) = []

-- the URL patterns `.name` of hosts
abbrev pub dotted_patterns : List HostEntry → List Pattern
dotted_patterns entries = flat_map (λ entry. read_pattern (url_pattern (46 ∷ entry.host))) entries

-- a section with a list's update and the URL patterns of the hosts of a file
abbrev pub hosts_section : ListedHosts → List ℕ → Placed
hosts_section listed bytes = record { file = 0; section = record { line = 1; updates = listed.update ∷ []; patterns = dotted_patterns (list_entries bytes) } }

-- such a section for each list and its file
abbrev pub hosts_sections : List ListedHosts → List (List ℕ) → List Placed
hosts_sections [] files = []
hosts_sections (listed ∷ lists) [] = []
hosts_sections (listed ∷ lists) (bytes ∷ files) = hosts_section listed bytes ∷ hosts_sections lists files

-- the lists are those of the files
abbrev pub AreReadFrom : List (List ℕ) → List ListedHosts → Type 0
AreReadFrom [] [] = Unit {0}
AreReadFrom [] (listed ∷ lists) = ⊥
AreReadFrom (bytes ∷ files) [] = ⊥
AreReadFrom (bytes ∷ files) (listed ∷ lists) = SameLines listed.hosts (list_entries bytes) × AreReadFrom files lists

-- the same without lists, and with their sections in front
abbrev pub lists_as_sections : List (List ℕ) → Merged → Merged
lists_as_sections files merged = record { lists = []; names = merged.names; sections = hosts_sections merged.lists files ++ merged.sections }
