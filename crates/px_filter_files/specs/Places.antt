-- Where filters of a kind and a name stand.
use Rattle.std.specs.Prelude.{◌≡◌, ◌+◌, ℕ, Bool, List, [], ◌∷◌, Option, Some, None, Vec, option_map, if◌then◌else◌}
use Rattle.std.specs.BTreeMap.{BTreeMap, get_by}
use Rattle.std.specs.Cmp.Lexicographic.{slice_cmp}
use Rattle.std.specs.List.{slice_get}
use Rattle.std.specs.Option.{option_map_or}
use Rattle.std.specs.Ordering.{nat_cmp}
use Rattle.px_subst.specs.Jobs.{JobParts}
use Rattle.px_filter_files.specs.declared.files.NamedFilter.{NamedFilter}
use Rattle.px_filter_files.specs.declared.kinds.FilterKind.{FilterKind}
use Rattle.px_filter_files.specs.declared.kinds.FilterKind.TheVariants.{Content, ClientHeader, ServerHeader, ClientTagger, ServerTagger}
use Rattle.px_filter_files.specs.declared.places.Places.{Places}
use Rattle.px_filter_files.specs.FilterFiles.{FiltersOfFiles, has_key}

-- the place of the first item with a property
abbrev pub first_place : {X : Type 0} → (X → Bool) → List X → Option ℕ
first_place p [] = None
first_place p (x ∷ xs) = if p x then Some 0 else option_map (λ n. n + 1) (first_place p xs)

-- the place that a map from names has for a name
abbrev pub place_in : {Y : Type 0} → BTreeMap (Vec ℕ Y) ℕ → List ℕ → Option ℕ
place_in map name = get_by (λ k. slice_cmp nat_cmp name k.items) map

-- the jobs of the filter at a place
abbrev pub jobs_at : FiltersOfFiles → ℕ → List JobParts
jobs_at all at = option_map_or (λ (f : NamedFilter). f.filter) (slice_get all.filters at) []

-- the same, where there may be no place: then there are no jobs
abbrev pub jobs_at_place : FiltersOfFiles → Option ℕ → List JobParts
jobs_at_place all place = option_map_or (jobs_at all) place []

-- a place, or this one where there is none and the item has the property
abbrev pub or_here : Option ℕ → Bool → ℕ → Option ℕ
or_here (Some n) has at = Some n
or_here None has at = if has then Some at else None

-- the map has the first place of each name among filters of a kind
abbrev pub HasPlacesOf : {Y : Type 0} → List NamedFilter → FilterKind → BTreeMap (Vec ℕ Y) ℕ → Type 0
HasPlacesOf filters kind map =
    (name : List ℕ) → place_in map name ≡ first_place (has_key (record { kind = kind; name = name })) filters

-- each of the maps has the places of its kind
pub record ArePlacesOf (filters : List NamedFilter) (places : Places) : Type 0 where
  pub content : HasPlacesOf filters Content places.content
  pub client_header : HasPlacesOf filters ClientHeader places.client_header
  pub server_header : HasPlacesOf filters ServerHeader places.server_header
  pub client_tagger : HasPlacesOf filters ClientTagger places.client_tagger
  pub server_tagger : HasPlacesOf filters ServerTagger places.server_tagger

-- each filter that is kept is the one at its place
abbrev pub AreKeptOf : List NamedFilter → List (Option (List JobParts)) → Type 0
AreKeptOf filters kept = (at : ℕ) (jobs : List JobParts) → slice_get kept at ≡ Some (Some jobs) → option_map (λ f. f.filter) (slice_get filters at) ≡ Some jobs
