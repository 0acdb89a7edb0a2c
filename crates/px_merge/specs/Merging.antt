-- What lists of hosts and sections set for a URL, and sections for a tag, and where tags are absent (the manual's chapter on actions files).
use Rattle.std.specs.Prelude.{ℕ, ◌+◌, Bool, false, not, List, [], ◌∷◌, ◌++◌, filter, map, Option, None, Some}
use Rattle.std.specs.List.{flat_map, list_any}
use Rattle.px_actions.specs.Sets.{empty_set, updated_all}
use Rattle.px_actions.specs.declared.settings.Setting.{Setting}
use Rattle.px_actions.specs.declared.updates.Update.{Update}
use Rattle.px_patterns.specs.Patterns.{tag_matches, url_matches}
use Rattle.px_patterns.specs.declared.patterns.TagPattern.{TagPattern}
use Rattle.px_patterns.specs.declared.urls.Url.{Url}
use Rattle.px_action_files.specs.declared.patterns.Pattern.{Pattern}
use Rattle.px_action_files.specs.declared.patterns.Pattern.TheVariants as pattern
use Rattle.px_host_lists.specs.Hosts.{is_listed, listed_line}
use Rattle.px_merge.specs.Merged.{Merged}
use Rattle.px_merge.specs.declared.host_lists.ListRef.{ListRef}
use Rattle.px_merge.specs.declared.host_lists.ListedHosts.{ListedHosts}
use Rattle.px_merge.specs.declared.places.Placed.{Placed}
use Rattle.px_merge.specs.declared.places.SectionRef.{SectionRef}
use Rattle.px_merge.specs.declared.sides.Side.{Side}
use Rattle.px_merge.specs.declared.sides.Side.TheVariants as side

-- ---- updates

-- the updates of sections, one section after another
abbrev pub updates_in : List Placed → List Update
updates_in sections = flat_map (λ p. p.section.updates) sections

-- the set after the updates of sections
abbrev pub applied : List Setting → List Placed → List Setting
applied set sections = updated_all set (updates_in sections)

-- ---- which sections

-- the sections of which a pattern passes, in file order
abbrev pub sections_with : (Pattern → Bool) → List Placed → List Placed
sections_with test sections = filter (λ p. list_any test p.section.patterns) sections

-- whether a tag pattern matches one of some tags
abbrev pub matches_some : TagPattern → List (List ℕ) → Bool
matches_some tag_pattern tags = list_any (λ tag. tag_matches tag_pattern tag) tags

-- a URL pattern that matches the URL, or a CLIENT-TAG pattern that matches one of the client's tags
abbrev pub is_for_url : Url → List (List ℕ) → Pattern → Bool
is_for_url url tags (pattern.Url p) = url_matches p url
is_for_url url tags (pattern.Tag p) = false
is_for_url url tags (pattern.NoRequestTag p) = false
is_for_url url tags (pattern.NoResponseTag p) = false
is_for_url url tags (pattern.ClientTag p) = matches_some p tags

-- a TAG pattern that matches the tag
abbrev pub is_for_tag : List ℕ → Pattern → Bool
is_for_tag tag (pattern.Url p) = false
is_for_tag tag (pattern.Tag p) = tag_matches p tag
is_for_tag tag (pattern.NoRequestTag p) = false
is_for_tag tag (pattern.NoResponseTag p) = false
is_for_tag tag (pattern.ClientTag p) = false

-- a NO-REQUEST-TAG pattern, or for the response a NO-RESPONSE-TAG pattern, that matches none of the tags
abbrev pub is_for_absent : Side → List (List ℕ) → Pattern → Bool
is_for_absent side tags (pattern.Url p) = false
is_for_absent side tags (pattern.Tag p) = false
is_for_absent side.Request tags (pattern.NoRequestTag p) = not (matches_some p tags)
is_for_absent side.Response tags (pattern.NoRequestTag p) = false
is_for_absent side.Request tags (pattern.NoResponseTag p) = false
is_for_absent side.Response tags (pattern.NoResponseTag p) = not (matches_some p tags)
is_for_absent side tags (pattern.ClientTag p) = false

-- the sections that apply to a URL and the tags of a client
abbrev pub matching : List Placed → Url → List (List ℕ) → List Placed
matching sections url tags = sections_with (is_for_url url tags) sections

-- the sections that apply to a tag
abbrev pub tagged_sections : List Placed → List ℕ → List Placed
tagged_sections sections tag = sections_with (is_for_tag tag) sections

-- the sections that apply where no tag matches
abbrev pub absent : List Placed → List (List ℕ) → Side → List Placed
absent sections tags side = sections_with (is_for_absent side tags) sections

-- ---- which lists of hosts

-- the updates of the lists that name a host or a host above it, in the order of the lists
abbrev pub listed_updates : List ListedHosts → List ℕ → List Update
listed_updates lists host = map (λ l. l.update) (filter (λ l. is_listed l.hosts host) lists)

-- ---- what they set

-- what lists of hosts and sections set for a URL: from the empty set, the updates of the lists that name its host, as if a section of
-- each list's hosts stood before the first file, and then those of the sections that apply
unfoldable pub url_actions : Merged → Url → List (List ℕ) → List Setting
url_actions merged url tags = applied (updated_all empty_set (listed_updates merged.lists url.host)) (matching merged.sections url tags)

-- ---- where they stand

-- where a section stands
abbrev pub ref_of : Placed → SectionRef
ref_of p = record { file = p.file; line = p.section.line }

-- the place of a line, if there is one, of the list with a number
abbrev pub list_ref : ℕ → Option ℕ → List ListRef
list_ref number None = []
list_ref number (Some line) = record { list = number; line = line } ∷ []

-- where each list, the first of which has a number, names a host or, of the hosts above it, the longest
abbrev pub list_refs_from : ℕ → List ListedHosts → List ℕ → List ListRef
list_refs_from number [] host = []
list_refs_from number (l ∷ lists) host = list_ref number (listed_line l.hosts host) ++ list_refs_from (number + 1) lists host

-- where lists, which are counted from 0, name a host or a host above it
abbrev pub list_refs : List ListedHosts → List ℕ → List ListRef
list_refs lists host = list_refs_from 0 lists host
