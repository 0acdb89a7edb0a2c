-- Patterns that search in the path of every host, apart from the index.
use Rattle.std.specs.Prelude.{◌≡◌, ℕ, ◌≤◌, Bool, true, false, List, [], ◌++◌, Option, None, Some}
use Rattle.std.specs.List.{list_any}
use Rattle.px_patterns.specs.Expressions.{finds}
use Rattle.px_patterns.specs.declared.urls.Url.{Url}
use Rattle.px_action_files.specs.declared.patterns.Pattern.{Pattern}
use Rattle.px_action_files.specs.declared.patterns.Pattern.TheVariants as pattern
use Rattle.px_merge.specs.declared.finders.Finder.{Finder}
use Rattle.px_merge.specs.declared.indexes.PlaceIndex.{PlaceIndex}
use Rattle.px_merge.specs.declared.parts.PlaceParts.{PlaceParts}
use Rattle.px_merge.specs.declared.places.PatternPlace.{PatternPlace}
use Rattle.px_merge.specs.declared.places.Placed.{Placed}
use Rattle.px_merge.specs.Indexes.{IsIndexed, hits_in, weight}
use Rattle.px_merge.specs.Merging.{is_for_url}

-- the pattern is one for URLs, and its path pattern has this expression
abbrev pub HasPath : List ℕ → Option Pattern → Type 0
HasPath text None = ⊥
HasPath text (Some (pattern.Url p)) = p.path ≡ Some text
HasPath text (Some (pattern.Tag p)) = ⊥
HasPath text (Some (pattern.NoRequestTag p)) = ⊥
HasPath text (Some (pattern.NoResponseTag p)) = ⊥
HasPath text (Some (pattern.ClientTag p)) = ⊥

-- where none of the expressions finds something in the path of a URL, none of the patterns at the places applies to it
abbrev pub AreAsked : List Placed → List (List ℕ) → List PatternPlace → Type 0
AreAsked sections texts places =
    (url : Url) (tags : List (List ℕ)) → list_any (λ text. finds text url.path) texts ≡ false → hits_in sections (is_for_url url tags) places ≡ []

-- ---- places that are parted

abbrev pub parted_places : PlaceParts → List PatternPlace
parted_places parts = parts.always ++ parts.paths

-- no place is lost
abbrev pub KeepsPlaces : List PatternPlace → List PatternPlace → Type 0
KeepsPlaces old new = (test : PatternPlace → Bool) → list_any test old ≡ true → list_any test new ≡ true

-- no place is there twice
abbrev pub AreOnce : List PatternPlace → List PatternPlace → Type 0
AreOnce old new = (weigh : PatternPlace → ℕ) → weight weigh new ≤ weight weigh old

-- ---- patterns that are found

-- an index with some more places that are kept under no text
abbrev pub with_places : PlaceIndex → List PatternPlace → PlaceIndex
with_places index places = record index { always = index.always ++ places }

-- each pattern is found by the URLs to which it applies, those on paths after their expressions were asked together
pub record CanFind (finder : Finder) (sections : List Placed) : Type 0 where
  pub indexed : IsIndexed (with_places finder.index finder.paths) sections
  pub asked : AreAsked sections finder.union finder.paths
