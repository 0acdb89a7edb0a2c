-- What is shown of a URL, and what a check of a configuration prints.
use Rattle.std.specs.Prelude.{ℕ, Bool, List, [], ◌∷◌, ◌++◌, length, map, slice_index_or, decimal, codes, if◌then◌else◌}
use Rattle.std.specs.List.{flat_map}
use Rattle.px_actions.specs.Sets.{set_lines}
use Rattle.px_merge.specs.Merged.{Merged, list_names, pattern_count}
use Rattle.px_merge.specs.Merging.{list_refs, matching, ref_of, url_actions}
use Rattle.px_merge.specs.declared.host_lists.ListRef.{ListRef}
use Rattle.px_merge.specs.declared.places.SectionRef.{SectionRef}
use Rattle.px_patterns.specs.Urls.{shown_url}
use Rattle.px_patterns.specs.declared.urls.Url.{Url}
use Rattle.px_config.specs.declared.configs.Config.{Config}
use Rattle.px_config.specs.declared.settings.Note.{Note}

-- FILE:LINE
abbrev pub shown_place : List ℕ → ℕ → List ℕ
shown_place file line = file ++ 58 ∷ decimal line

-- a place in one of some named files, as a line
abbrev pub place_line : List (List ℕ) → ℕ → ℕ → List ℕ
place_line names file line = shown_place (slice_index_or names file []) line ++ 10 ∷ []

-- where a list of hosts names a host, as a line
abbrev pub list_ref_line : List (List ℕ) → ListRef → List ℕ
list_ref_line names r = place_line names r.list r.line

-- the lines of the lists that name a host
unfoldable pub list_ref_lines : List (List ℕ) → List ListRef → List ℕ
list_ref_lines names refs = flat_map (list_ref_line names) refs

-- where a section stands, as a line
abbrev pub ref_line : List (List ℕ) → SectionRef → List ℕ
ref_line names r = place_line names r.file r.line

-- the lines of the sections that match
unfoldable pub ref_lines : List (List ℕ) → List SectionRef → List ℕ
ref_lines names refs = flat_map (ref_line names) refs

-- the lines of the actions; with `toggle 0` there are none
abbrev pub action_lines : Config → Url → List (List ℕ) → List ℕ
action_lines c url tags = if c.settings.toggle then set_lines (url_actions c.sections url tags) else []

-- the URL, the lists that name its host, the sections that match it or one of the client's tags, and the actions that they set
unfoldable pub shown : Config → Url → List (List ℕ) → List ℕ
shown c url tags =
    shown_url url ++ codes "\nsections:\n" ++ list_ref_lines (list_names c.sections.lists) (list_refs c.sections.lists url.host)
    ++ ref_lines c.sections.names (map ref_of (matching c.sections.sections url tags))
    ++ codes "actions:\n" ++ action_lines c url tags

-- ---- what a check prints

-- FILE:LINE: note: TEXT
abbrev pub note_line : Note → List ℕ
note_line n = shown_place n.file n.line ++ codes ": note: " ++ n.text ++ 10 ∷ []

unfoldable pub note_lines : List Note → List ℕ
note_lines notes = flat_map note_line notes

-- a number and what it counts
unfoldable pub shown_count : ℕ → List ℕ → List ℕ
shown_count count what = decimal count ++ what

-- so many action files
unfoldable pub file_counts : ℕ → List ℕ
file_counts files = codes "ok: " ++ shown_count files (codes " action files, ")

-- so many sections and patterns
unfoldable pub pattern_counts : ℕ → ℕ → List ℕ
pattern_counts sections patterns = shown_count sections (codes " sections, ") ++ shown_count patterns (codes " patterns, ")

-- so many filter files and filters
unfoldable pub filter_counts : ℕ → ℕ → List ℕ
filter_counts files filters = shown_count files (codes " filter files, ") ++ shown_count filters (codes " filters\n")

-- how many files, sections, patterns and filters there are
abbrev pub count_line : Config → List ℕ
count_line c =
    file_counts (length c.sections.names) ++ pattern_counts (length c.sections.sections) (pattern_count c.sections.sections)
    ++ filter_counts c.filters.files (length c.filters.filters)

-- the notes, and then the counts
unfoldable pub checked : Config → List ℕ
checked c = note_lines c.notes ++ count_line c
