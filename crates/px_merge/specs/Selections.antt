-- Sections that are picked by their numbers.
use Rattle.std.specs.Prelude.{ℕ, ◌≡◌, ◌<◌, Bool, true, false, List, [], All, length, slice_get, option_to_list, Option, None, Some}
use Rattle.std.specs.List.{flat_map, list_any}
use Rattle.px_action_files.specs.declared.patterns.Pattern.{Pattern}
use Rattle.px_action_files.specs.declared.patterns.Pattern.TheVariants as pattern
use Rattle.px_merge.specs.declared.places.Placed.{Placed}
use Rattle.px_merge.specs.declared.places.SectionCounts.{SectionCounts}
use Rattle.px_merge.specs.declared.lists.Purpose.{Purpose}
use Rattle.px_merge.specs.declared.lists.Purpose.TheVariants as purpose
use Rattle.px_merge.specs.declared.finders.Finder.{Finder}
use Rattle.px_merge.specs.Finders.{CanFind}
use Rattle.px_merge.specs.Merged.{pattern_count}
use Rattle.px_merge.specs.declared.sides.Side.TheVariants as side
use Rattle.px_merge.specs.declared.sides.TagTest.{TagTest}
use Rattle.px_merge.specs.declared.sides.TagTest.TheVariants as tag_test
use Rattle.px_merge.specs.Merging.{is_for_absent, is_for_tag, sections_with}

-- the sections with these numbers, counted from 0
abbrev pub picked : List Placed → List ℕ → List Placed
picked sections numbers = flat_map (λ n. option_to_list (slice_get sections n)) numbers

-- the numbers are those of the sections of which a pattern passes, in file order
abbrev pub Selects : (Pattern → Bool) → List Placed → List ℕ → Type 0
Selects test sections numbers = picked sections numbers ≡ sections_with test sections

-- whether a section, if there is one, has a pattern that passes
abbrev pub has_some : (Pattern → Bool) → Option Placed → Bool
has_some test None = false
has_some test (Some p) = list_any test p.section.patterns

-- the patterns of a section, if there is one
abbrev pub patterns_in : Option Placed → List Pattern
patterns_in None = []
patterns_in (Some p) = p.section.patterns

-- whether a pattern is a TAG pattern that matches a tag, or one on absent tags that matches none
abbrev pub is_for_test : TagTest → Pattern → Bool
is_for_test (tag_test.Present tag) pattern = is_for_tag tag.now pattern
is_for_test (tag_test.Absent side tags) pattern = is_for_absent side tags.now pattern

-- what a list of sections is for: those with TAG patterns, or those with patterns on absent tags of a side
abbrev pub is_of_purpose : Purpose → Pattern → Bool
is_of_purpose purpose (pattern.Url p) = false
is_of_purpose purpose.Tag (pattern.Tag p) = true
is_of_purpose (purpose.Absent side) (pattern.Tag p) = false
is_of_purpose purpose.Tag (pattern.NoRequestTag p) = false
is_of_purpose (purpose.Absent side.Request) (pattern.NoRequestTag p) = true
is_of_purpose (purpose.Absent side.Response) (pattern.NoRequestTag p) = false
is_of_purpose purpose.Tag (pattern.NoResponseTag p) = false
is_of_purpose (purpose.Absent side.Request) (pattern.NoResponseTag p) = false
is_of_purpose (purpose.Absent side.Response) (pattern.NoResponseTag p) = true
is_of_purpose purpose (pattern.ClientTag p) = false

-- what is kept of sections beside them
pub record AreKept (names : List (List ℕ)) (sections : List Placed) (counts : SectionCounts) (finder : Finder) (tags requests responses : List ℕ) : Type 0 where
  pub files : counts.files ≡ length names
  pub all : counts.sections ≡ length sections
  pub patterns : counts.patterns ≡ pattern_count sections
  pub within : All (λ p. p.file < length names) sections
  pub found : CanFind finder sections
  pub tags_are : Selects (is_of_purpose purpose.Tag) sections tags
  pub requests_are : Selects (is_of_purpose (purpose.Absent side.Request)) sections requests
  pub responses_are : Selects (is_of_purpose (purpose.Absent side.Response)) sections responses
