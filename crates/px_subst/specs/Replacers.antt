-- What a built expression with its parts stands for, and how it is searched.
use Rattle.std.specs.Prelude.{◌≡◌, ◌<◌, ◌+◌, ◌==◌, ℕ, false, List, [], ◌∷◌, map, flat_map, length, take, Some, IfSome, if◌then◌else◌}
use Rattle.regex_hir.specs.Re.{Re}
use Rattle.regex_hir.specs.Find.{Match, find_all}
use Rattle.regex_vm.specs.Found.{span}
use Rattle.regex.specs.Writes.{group_of}
use Rattle.regex.specs.Bytes.{matcher_pattern, matcher_names}
use Rattle.regex.specs.Replace.{bytes_of, replaced_by}
use Rattle.regex.specs.Search.{LiesWithin, matches_after}
use Rattle.regex.specs.Locations.{location, location_count}
use Rattle.regex.specs.declared.locations.CaptureLocations.{CaptureLocations}
use Rattle.px_subst.specs.declared.items.SubstituteItem.{SubstituteItem}
use Rattle.px_subst.specs.declared.items.SubstituteItem.TheVariants as item
use Rattle.px_subst.specs.declared.items.Part.{Part}
use Rattle.px_subst.specs.declared.items.Part.TheVariants as part
use Rattle.px_subst.specs.declared.flags.Flags.{Flags}
use Rattle.px_subst.specs.declared.searches.JobSearch.{JobSearch}
use Rattle.px_subst.specs.declared.outcomes.JobOutcome.{JobOutcome}
use Rattle.px_subst.specs.Expressions.{IsJobBuiltFrom}
use Rattle.px_subst.specs.Substitutes.{written_items}
use Rattle.px_subst.specs.Jobs.{run_with}

-- the items that a part stands for
abbrev pub part_items : Part → List SubstituteItem
part_items (part.Text bytes) = map item.Byte bytes.items
part_items (part.Group n) = item.Group n ∷ []

abbrev pub items_in_all : List Part → List SubstituteItem
items_in_all parts = flat_map part_items parts

-- what a part writes where the groups lie at these places
abbrev pub part_bytes : List ℕ → CaptureLocations → Part → List ℕ
part_bytes text places (part.Text bytes) = bytes.items
part_bytes text places (part.Group n) = bytes_of text (location places n)

-- each place lies in the text
abbrev pub AreWithin : List ℕ → CaptureLocations → Type 0
AreWithin text places = (n : ℕ) → IfSome (location places n) (LiesWithin 0 (length text))

-- what is built of a pattern: its text, the items of its substitute, and the flags
pub record Built : Type 0 where
  pub pattern : List ℕ
  pub items : List SubstituteItem
  pub flags : Flags

-- what is built is of this pattern, these items and flags
pub record SpellsJob (pattern : List ℕ) (items : List SubstituteItem) (flags : Flags) (b : Built) : Type 0 where
  pub pattern_is : b.pattern ≡ pattern
  pub items_are : b.items ≡ items
  pub flags_are : b.flags ≡ flags

-- what it makes of bytes
abbrev pub replaces : Built → List ℕ → JobOutcome
replaces b text = run_with b.pattern b.items b.flags text

-- what searches for its pattern, with room for each group
pub record IsSearchOf (b : Built) (s : JobSearch) : Type 0 where
  pub searches : IsJobBuiltFrom b.flags b.pattern (matcher_pattern s.matcher)
  pub room : location_count s.places ≡ length (matcher_names s.matcher)

-- the first `limit` matches replaced
abbrev pub replaced_up_to : ℕ → List SubstituteItem → Re → List ℕ → JobOutcome
replaced_up_to limit items re text =
    let taken = take limit (find_all re text) in
    record { text = replaced_by (written_items text items) text 0 taken; hits = length taken }

-- the match lies at this place, and its groups at these places
pub record LiesAt (text : List ℕ) (m : Match) (place : ℕ × ℕ) (places : CaptureLocations) : Type 0 where
  pub place_is : place ≡ span m
  pub groups_are : (n : ℕ) → location places n ≡ (if n == 0 then Some (span m) else group_of m n)
  pub within : AreWithin text places

-- One more match is wanted, and m is the first behind a place, which is one more than the end of the match before, or 0.
pub record TakesNext (wanted : ℕ) (re : Re) (text : List ℕ) (after : ℕ) (m : Match) (place : ℕ × ℕ) (places : CaptureLocations) : Type 0 where
  pub wants : 0 < wanted
  pub first : matches_after false re text after ≡ m ∷ matches_after false re text (place.1 + 1)
  pub lies : LiesAt text m place places
