-- What the board's answers mean.
use Rattle.std.specs.Prelude.{◌≡◌, ◌≢◌, ℕ, ◌+◌, ◌<◌, List, [], ◌∷◌, ◌++◌, length, Option, Some, None, ⊤}
use Rattle.px_tag_board.specs.declared.changes.TagChange.{TagChange}
use Rattle.px_tag_board.specs.declared.answers.Worn.{Worn}
use Rattle.px_tag_board.specs.declared.answers.TheConstants.{ENTRY_LIMIT}
use Rattle.px_tag_board.specs.Tags.{Tags, tags_after}
use Rattle.px_tag_board.specs.States.{BoardState, worn_by}
use Rattle.px_tag_board.specs.Chains.{state_at, newest_of}

-- an answer: its place is the view's last number, and its tags are what the address wears there
pub record IsWorn (view : List BoardState) (address : List ℕ) (worn : Worn) : Type 0 where
  pub last : length view ≡ worn.place + 1
  pub tags : worn.tags ≡ worn_by address (state_at view worn.place)

-- no change is wanted, or it alters nothing of these tags
abbrev pub IsChangeSettled : Option TagChange → Tags → Type 0
IsChangeSettled None tags = ⊤
IsChangeSettled (Some change) tags = tags_after tags change ≡ tags

-- the last entry of the state is this change of this address, which altered what it wore
abbrev pub EndsWith : BoardState → List ℕ → Option TagChange → Type 0
EndsWith state address None = ⊥
EndsWith state address (Some change) =
    (before : BoardState) × (state ≡ before ++ record { address = address; change = change } ∷ []) × (tags_after (worn_by address before) change ≢ worn_by address before)

-- the view went on, up to a state that ends with this change
pub record IsMade (old new : List BoardState) (address : List ℕ) (change : Option TagChange) : Type 0 where
  pub longer : length old < length new
  pub ends : EndsWith (newest_of new) address change

-- a change is wanted that would alter these tags
abbrev pub WouldAlter : Option TagChange → Tags → Type 0
WouldAlter None tags = ⊥
WouldAlter (Some change) tags = tags_after tags change ≢ tags

-- a change that would alter these tags has no room in the state
pub record IsFull (state : BoardState) (change : Option TagChange) (tags : Tags) : Type 0 where
  pub entries : length state ≡ ENTRY_LIMIT
  pub alters : WouldAlter change tags
