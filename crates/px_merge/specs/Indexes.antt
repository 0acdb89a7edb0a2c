-- Places of patterns, found by the labels of a host.
use Rattle.std.specs.Prelude.{◌≡◌, ℕ, ◌<◌, ◌≤◌, ◌+◌, ◌==◌, Bool, true, false, if◌then◌else◌, List, [], ◌∷◌, ◌++◌, length, slice_get, Option, None, Some}
use Rattle.std.specs.List.{flat_map, list_any}
use Rattle.std.specs.Str.{str_eq_ignore_ascii_case}
use Rattle.px_patterns.specs.Hosts.{host_labels, host_matches}
use Rattle.px_patterns.specs.Patterns.{url_matches}
use Rattle.px_patterns.specs.declared.hosts.HostPattern.{HostPattern}
use Rattle.px_patterns.specs.declared.labels.LabelPattern.{LabelPattern}
use Rattle.px_patterns.specs.declared.labels.LabelPattern.TheVariants.{Plain}
use Rattle.px_patterns.specs.declared.patterns.UrlPattern.{UrlPattern}
use Rattle.px_patterns.specs.declared.urls.Url.{Url}
use Rattle.px_action_files.specs.declared.patterns.Pattern.{Pattern}
use Rattle.px_merge.specs.declared.indexes.PlaceIndex.{PlaceIndex}
use Rattle.px_merge.specs.declared.places.PatternPlace.{PatternPlace}
use Rattle.px_merge.specs.declared.places.Placed.{Placed}
use Rattle.px_merge.specs.Candidates.{cost}
use Rattle.px_merge.specs.Keys.{slot_number}
use Rattle.px_merge.specs.Merging.{is_for_url}

-- ---- places

abbrev pub place_of : ℕ → ℕ → PatternPlace
place_of section at = record { section = section; pattern = at }

-- the pattern at a place, if there is one
abbrev pub pattern_in : Option Placed → ℕ → Option Pattern
pattern_in None at = None
pattern_in (Some p) at = slice_get p.section.patterns at

abbrev pub pattern_at : List Placed → PatternPlace → Option Pattern
pattern_at sections place = pattern_in (slice_get sections place.section) place.pattern

abbrev pub passes : (Pattern → Bool) → Option Pattern → Bool
passes test None = false
passes test (Some p) = test p

-- the section of a place where the pattern there passes
abbrev pub hit_of : List Placed → (Pattern → Bool) → PatternPlace → List ℕ
hit_of sections test place = if passes test (pattern_at sections place) then place.section ∷ [] else []

abbrev pub hits_in : List Placed → (Pattern → Bool) → List PatternPlace → List ℕ
hits_in sections test places = flat_map (hit_of sections test) places

abbrev pub is_in_numbers : ℕ → List ℕ → Bool
is_in_numbers number numbers = list_any (λ n. n == number) numbers

-- ---- slots

abbrev pub places_or_none : Option (List PatternPlace) → List PatternPlace
places_or_none None = []
places_or_none (Some places) = places

-- the places in the slot with a number
abbrev pub slot_at : List (List PatternPlace) → ℕ → List PatternPlace
slot_at slots number = places_or_none (slice_get slots number)

-- the places in the slot of a text
abbrev pub slot_of : List (List PatternPlace) → List ℕ → List PatternPlace
slot_of slots key = slot_at slots (slot_number (length slots) key)

-- the places that are kept under no text, and those in the slots of some texts
abbrev pub gathered_places : List PatternPlace → List (List PatternPlace) → List (List ℕ) → List PatternPlace
gathered_places always slots keys = always ++ flat_map (slot_of slots) keys

-- the texts under which patterns that match a host are kept
abbrev pub host_keys : List ℕ → List (List ℕ)
host_keys host = host ∷ host_labels host

-- ---- no pattern is lost

-- no place is lost
abbrev pub Grows : PlaceIndex → PlaceIndex → Type 0
Grows old new = (keys : List (List ℕ)) (test : PatternPlace → Bool) → list_any test (gathered_places old.always old.slots.items keys) ≡ true
    → list_any test (gathered_places new.always new.slots.items keys) ≡ true

-- the place is found under some texts
abbrev pub FindsUnder : PlaceIndex → PatternPlace → List (List ℕ) → Type 0
FindsUnder index place keys = (test : PatternPlace → Bool) → test place ≡ true → list_any test (gathered_places index.always index.slots.items keys) ≡ true

-- each host that a pattern matches has a text among its labels, or is that text, without case
abbrev pub keeps_under : Option (List ℕ) → List ℕ → Bool
keeps_under None host = true
keeps_under (Some text) host = list_any (str_eq_ignore_ascii_case text) (host_keys host)

abbrev pub HostKeepsUnder : HostPattern → Option (List ℕ) → Type 0
HostKeepsUnder own text = (host : List ℕ) → host_matches own host ≡ true → keeps_under text host ≡ true

abbrev pub KeepsUnder : UrlPattern → Option (List ℕ) → Type 0
KeepsUnder pattern text = (url : Url) → url_matches pattern url ≡ true → keeps_under text url.host ≡ true

-- the text of a label without `*`, `?` and `[` passes
abbrev pub PassesPlain : (List ℕ → Bool) → LabelPattern → Type 0
PassesPlain test label = (text : List ℕ) → label ≡ Plain text → test text ≡ true

-- the texts of labels without `*`, `?` and `[` pass
abbrev pub PlainPass : (List ℕ → Bool) → List LabelPattern → Type 0
PlainPass test labels = (at : ℕ) (text : List ℕ) → slice_get labels at ≡ Some (Plain text) → test text ≡ true

-- the place is found by each URL to which the pattern applies
abbrev pub Finds : PlaceIndex → PatternPlace → Pattern → Type 0
Finds index place pattern = (url : Url) (tags : List (List ℕ)) → is_for_url url tags pattern ≡ true → FindsUnder index place (host_keys url.host)

-- of a section's patterns the first are found
abbrev pub HasFirstPatterns : PlaceIndex → ℕ → List Pattern → ℕ → Type 0
HasFirstPatterns index number patterns count = (j : ℕ) (pattern : Pattern) → j < count → slice_get patterns j ≡ Some pattern → Finds index (place_of number j) pattern

-- of the first sections all patterns are found
abbrev pub HasSections : PlaceIndex → List Placed → ℕ → Type 0
HasSections index sections count = (i : ℕ) (p : Placed) → i < count → slice_get sections i ≡ Some p
    → HasFirstPatterns index i p.section.patterns (length p.section.patterns)

-- ---- no pattern is kept twice

-- the weights of places together
abbrev pub weight : (PatternPlace → ℕ) → List PatternPlace → ℕ
weight weigh [] = 0
weight weigh (place ∷ places) = weigh place + weight weigh places

abbrev pub slots_weight : (PatternPlace → ℕ) → List (List PatternPlace) → ℕ
slots_weight weigh [] = 0
slots_weight weigh (places ∷ slots) = weight weigh places + slots_weight weigh slots

abbrev pub index_weight : (PatternPlace → ℕ) → PlaceIndex → ℕ
index_weight weigh index = weight weigh index.always + slots_weight weigh index.slots.items

-- the weights of a section's places from one on
abbrev pub patterns_weight : (PatternPlace → ℕ) → ℕ → ℕ → List Pattern → ℕ
patterns_weight weigh number at [] = 0
patterns_weight weigh number at (p ∷ patterns) = weigh (place_of number at) + patterns_weight weigh number (at + 1) patterns

abbrev pub sections_weight : (PatternPlace → ℕ) → ℕ → List Placed → ℕ
sections_weight weigh number [] = 0
sections_weight weigh number (p ∷ sections) = patterns_weight weigh number 0 p.section.patterns + sections_weight weigh (number + 1) sections

-- 1 where the pattern at a place is a candidate for a host
abbrev pub cost_of : List ℕ → Option Pattern → ℕ
cost_of host None = 0
cost_of host (Some p) = cost host p

abbrev pub cost_at : List Placed → List ℕ → PatternPlace → ℕ
cost_at sections host place = cost_of host (pattern_at sections place)

-- each pattern is found by the URLs to which it applies, and none is kept twice
pub record IsIndexed (index : PlaceIndex) (sections : List Placed) : Type 0 where
  pub has : HasSections index sections (length sections)
  pub once : (weigh : PatternPlace → ℕ) → index_weight weigh index ≤ sections_weight weigh 0 sections
