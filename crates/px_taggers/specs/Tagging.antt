-- Tags that are made of header lines (the manual's chapters on taggers and on tag patterns).
use Rattle.std.specs.Prelude.{ℕ, ◌≡◌, ◌==◌, ◌||◌, Bool, List, [], ◌∷◌, ◌++◌, length, fold, Option, None, Some, if◌then◌else◌}
use Rattle.px_actions.specs.Sets.{is_among, set_values}
use Rattle.px_actions.specs.declared.kinds.Kind.{Kind}
use Rattle.px_actions.specs.declared.kinds.Kind.TheVariants.{ClientHeaderTagger, ServerHeaderTagger, SuppressTag}
use Rattle.px_actions.specs.declared.settings.Setting.{Setting}
use Rattle.px_filter_files.specs.FilterFiles.{FiltersOfFiles, jobs_of}
use Rattle.px_filter_files.specs.declared.kinds.FilterKind.{FilterKind}
use Rattle.px_filter_files.specs.declared.kinds.FilterKind.TheVariants.{ClientTagger, ServerTagger}
use Rattle.px_merge.specs.Merging.{absent, applied, tagged_sections}
use Rattle.px_merge.specs.declared.places.Placed.{Placed}
use Rattle.px_merge.specs.declared.sides.Side.{Side}
use Rattle.px_merge.specs.declared.sides.Side.TheVariants.{Request, Response}
use Rattle.px_subst.specs.Jobs.{run_filter}
use Rattle.px_subst.specs.declared.outcomes.JobOutcome.{JobOutcome}
use Rattle.px_subst.specs.declared.words.Vars.{Vars}

-- ---- what tags are made by

-- the sections that apply to tags, the filters, whose header lines they are, and what the words of filters stand for
pub record Rules : Type 0 where
  pub sections : List Placed
  pub filters : FiltersOfFiles
  pub side : Side
  pub vars : Vars

abbrev pub rules : List Placed → FiltersOfFiles → Side → Vars → Rules
rules sections filters side vars = record { sections = sections; filters = filters; side = side; vars = vars }

-- the action that names the taggers of a side
abbrev pub action_of : Side → Kind
action_of Request = ClientHeaderTagger
action_of Response = ServerHeaderTagger

-- the filters that are taggers of a side
abbrev pub filters_of : Side → FilterKind
filters_of Request = ClientTagger
filters_of Response = ServerTagger

-- the names of the taggers in force
abbrev pub in_force : Side → List Setting → List (List ℕ)
in_force side set = set_values set (action_of side)

-- ---- tags

-- hits and a text that isn't empty give a tag
abbrev pub tag_in : JobOutcome → Option (List ℕ)
tag_in outcome = if outcome.hits == 0 then None else if length outcome.text == 0 then None else Some outcome.text

-- the tag that the tagger of a name makes of a line; a name that no filter has makes none
unfoldable pub tag_of : Rules → List ℕ → List ℕ → Option (List ℕ)
tag_of rules line name = tag_in (run_filter (jobs_of rules.filters (record { kind = filters_of rules.side; name = name })) rules.vars line)

-- an action set and the tags that were made
pub record Tagged : Type 0 where
  pub set : List Setting
  pub tags : List (List ℕ)

abbrev pub state : List Setting → List (List ℕ) → Tagged
state set tags = record { set = set; tags = tags }

-- a tag goes last, and the sections that apply to it are applied at once
abbrev pub with_tag : Rules → Tagged → List ℕ → Tagged
with_tag rules s tag = state (applied s.set (tagged_sections rules.sections tag)) (s.tags ++ tag ∷ [])

-- a tag isn't made that the set at that moment has as a value of `suppress-tag`, with case
abbrev pub is_suppressed : List Setting → List ℕ → Bool
is_suppressed set tag = is_among tag (set_values set SuppressTag)

-- such a tag, and one that stands among the others, changes nothing
abbrev pub is_left_out : Tagged → List ℕ → Bool
is_left_out s tag = is_suppressed s.set tag || is_among tag s.tags

abbrev pub after_tag : Rules → Tagged → Option (List ℕ) → Tagged
after_tag rules s None = s
after_tag rules s (Some tag) = if is_left_out s tag then s else with_tag rules s tag

-- after one tagger on a line
abbrev pub after_tagger : Rules → List ℕ → Tagged → List ℕ → Tagged
after_tagger rules line s name = after_tag rules s (tag_of rules line name)

-- ---- lines

-- after a line: by the taggers in force when its turn begins, in their order
unfoldable pub after_line : Rules → Tagged → List ℕ → Tagged
after_line rules s line = fold (after_tagger rules line) s (in_force rules.side s.set)

-- after lines, one behind the other
abbrev pub after_lines : Rules → Tagged → List (List ℕ) → Tagged
after_lines rules s lines = fold (after_line rules) s lines

-- behind the last line the sections on absent tags of the side are applied
abbrev pub after_absent : Rules → Tagged → Tagged
after_absent rules s = state (applied s.set (absent rules.sections s.tags rules.side)) s.tags

-- the set and the tags behind the lines of a side
unfoldable pub tag_headers : List Placed → FiltersOfFiles → List Setting → List (List ℕ) → List (List ℕ) → Side → Vars → Tagged
tag_headers sections filters set tags lines side vars =
    let all = rules sections filters side vars in
    after_absent all (after_lines all (state set tags) lines)

-- lines that give the same set and tags as others, by whatever sections, filters and words, and whatever tags there are
abbrev pub TagsLike : List Setting → Side → List (List ℕ) → List (List ℕ) → Type 0
TagsLike set side lines others = (sections : List Placed) → (filters : FiltersOfFiles) → (tags : List (List ℕ)) → (vars : Vars)
    → tag_headers sections filters set tags lines side vars ≡ tag_headers sections filters set tags others side vars
