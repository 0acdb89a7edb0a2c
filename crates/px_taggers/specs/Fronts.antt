-- Set and tags where tagging stopped for want of memory: those of a front of the work.
use Rattle.std.specs.Prelude.{◌≡◌, ◌⊎◌, ℕ, false, List, [], ◌∷◌, ◌++◌, Option, None, Some}
use Rattle.px_actions.specs.Sets.{IsUpdatedByFront}
use Rattle.px_merge.specs.Merging.{absent, tagged_sections, updates_in}
use Rattle.px_taggers.specs.Tagging.{Rules, Tagged, after_line, after_lines, after_tagger, in_force, is_left_out, tag_of}

-- within the work of some item, or before all of it, or behind the last; the items before it are done
abbrev pub IsFrontOfWork : {X : Type 0} → (Tagged → X → Tagged → Type 0) → (Tagged → X → Tagged) → Tagged → List X → Tagged → Type 0
IsFrontOfWork part step s [] now = now ≡ s
IsFrontOfWork part step s (x ∷ rest) now = part s x now ⊎ IsFrontOfWork part step (step s x) rest now

-- a tag that isn't left out stands last, and some first ones of the updates of its sections are made
pub record IsPartlyPut (rules : Rules) (s : Tagged) (tag : List ℕ) (now : Tagged) : Type 0 where
  pub is_new : is_left_out s tag ≡ false
  pub tags : now.tags ≡ s.tags ++ tag ∷ []
  pub updates : IsUpdatedByFront s.set (updates_in (tagged_sections rules.sections tag)) now.set

-- within the work of a tagger: nothing is done, or its tag is partly put
abbrev pub IsWithinTag : Rules → Tagged → Option (List ℕ) → Tagged → Type 0
IsWithinTag rules s None now = now ≡ s
IsWithinTag rules s (Some tag) now = (now ≡ s) ⊎ IsPartlyPut rules s tag now

abbrev pub IsWithinTagger : Rules → List ℕ → Tagged → List ℕ → Tagged → Type 0
IsWithinTagger rules line s name now = IsWithinTag rules s (tag_of rules line name) now

abbrev pub IsWithinTaggers : Rules → List ℕ → Tagged → List (List ℕ) → Tagged → Type 0
IsWithinTaggers rules line s names now = IsFrontOfWork (IsWithinTagger rules line) (after_tagger rules line) s names now

-- within the work of a line
abbrev pub IsWithinLine : Rules → Tagged → List ℕ → Tagged → Type 0
IsWithinLine rules s line now = IsWithinTaggers rules line s (in_force rules.side s.set) now

abbrev pub IsWithinLines : Rules → Tagged → List (List ℕ) → Tagged → Type 0
IsWithinLines rules s lines now = IsFrontOfWork (IsWithinLine rules) (after_line rules) s lines now

-- behind the last line: some first ones of the updates of the sections on absent tags are made
pub record IsWithinAbsent (rules : Rules) (s now : Tagged) : Type 0 where
  pub tags : now.tags ≡ s.tags
  pub updates : IsUpdatedByFront s.set (updates_in (absent rules.sections s.tags rules.side)) now.set

abbrev pub IsWithinTagging : Rules → Tagged → List (List ℕ) → Tagged → Type 0
IsWithinTagging rules s lines now = IsWithinLines rules s lines now ⊎ IsWithinAbsent rules (after_lines rules s lines) now
