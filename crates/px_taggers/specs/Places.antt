-- Taggers by their places among the filters.
use Rattle.std.specs.Prelude.{ℕ, ◌≡◌, ◌<◌, List, length, map, Option, IfSome, All}
use Rattle.px_actions.specs.declared.settings.Setting.{Setting}
use Rattle.px_filter_files.specs.FilterFiles.{FiltersOfFiles, jobs_of}
use Rattle.px_filter_files.specs.Places.{jobs_at_place}
use Rattle.px_merge.specs.declared.sides.Side.{Side}
use Rattle.px_subst.specs.Jobs.{JobParts, run_filter}
use Rattle.px_subst.specs.declared.words.Vars.{Vars}
use Rattle.px_taggers.specs.Fronts.{IsWithinTag}
use Rattle.px_taggers.specs.Tagging.{Rules, Tagged, after_tag, filters_of, in_force, tag_in}

-- ---- which taggers stand there

-- the place, if there is one, is that of a filter
abbrev pub IsPlaceOf : FiltersOfFiles → Option ℕ → Type 0
IsPlaceOf filters place = IfSome place (λ at. at < length filters.filters)

-- the jobs of the tagger of a name
abbrev pub jobs_named : FiltersOfFiles → Side → List ℕ → List JobParts
jobs_named filters side name = jobs_of filters (record { kind = filters_of side; name = name })

-- for each name, in order, the place of a filter with the jobs of its tagger
pub record AreTaggerPlaces (filters : FiltersOfFiles) (side : Side) (names : List (List ℕ)) (places : List (Option ℕ)) : Type 0 where
  pub within : All (IsPlaceOf filters) places
  pub jobs : map (jobs_at_place filters) places ≡ map (jobs_named filters side) names

-- the places are those of the taggers in force
abbrev pub AreInForce : FiltersOfFiles → Side → List Setting → List (Option ℕ) → Type 0
AreInForce filters side set places = AreTaggerPlaces filters side (in_force side set) places

-- ---- what they do on a line

-- the tag that jobs make of a line
unfoldable pub tag_by : List JobParts → Vars → List ℕ → Option (List ℕ)
tag_by jobs vars line = tag_in (run_filter jobs vars line)

-- after the tagger at a place
abbrev pub after_place : Rules → List ℕ → Tagged → Option ℕ → Tagged
after_place rules line s place = after_tag rules s (tag_by (jobs_at_place rules.filters place) rules.vars line)

-- within the work of the tagger at a place
abbrev pub IsWithinPlace : Rules → List ℕ → Tagged → Option ℕ → Tagged → Type 0
IsWithinPlace rules line s place now = IsWithinTag rules s (tag_by (jobs_at_place rules.filters place) rules.vars line) now
