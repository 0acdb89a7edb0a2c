-- How long a reply is, by its first five bytes (RFC 1928, section 6): no fewer tell it, and each reply has at least seven.
use Rattle.std.specs.Prelude.{◌≡◌, ℕ, false, ◌+◌, ◌<◌, ◌≤◌, ◌⊎◌, IsTrue, ◌++◌, length, take, drop, ◌==◌, ◌&&◌, if◌then◌else◌, List, Option, Some, None, slice_index, MatchBool}
use Rattle.px_base.specs.Sources.{SourceState, SourceGoesOn}
use Rattle.px_socks.specs.Messages.{selects, Took, NoneAhead}

-- how many bytes stand behind the first of the bound address, its port among them, by the address's type and that byte
abbrev pub rest_by : ℕ → ℕ → Option ℕ
rest_by kind first = if kind == 1 then Some 5 else (if kind == 3 then Some (first + 2) else (if kind == 4 then Some 17 else None))

-- how many bytes follow these five, where they begin a reply that says "succeeded"
abbrev pub rest_length : List ℕ → Option ℕ
rest_length bs = if slice_index bs 0 == 5 && slice_index bs 1 == 0 then rest_by (slice_index bs 3) (slice_index bs 4) else None

-- so many bytes of that kind were taken, or none stand there
abbrev pub TookOrNone : (List ℕ → Type 0) → Option ℕ → List ℕ → List ℕ → Type 0
TookOrNone P (Some count) old new = Took P count old new
TookOrNone P None old new = NoneAhead P old

-- the bytes begin a reply that says "succeeded", and are fewer than it has
pub record IsCutReply (bytes : List ℕ) : Type 0 where
  pub more : ℕ
  pub begins : rest_length (take 5 bytes) ≡ Some more
  pub fewer : length bytes < 5 + more

-- what may be read of a reply that isn't accepted: its first five bytes at most, or more that begin one that says "succeeded" and
-- are fewer than it has
abbrev pub IsReplyFront : List ℕ → Type 0
IsReplyFront bytes = (length bytes ≤ 5) ⊎ IsCutReply bytes

-- two bytes at most, which don't select the method that was offered
pub record SelectsNone (bytes : List ℕ) : Type 0 where
  pub other : selects bytes ≡ false
  pub few : length bytes ≤ 2

-- what may be heard of a server that isn't accepted: the two bytes of the method at most, and behind the method that was offered
-- what may be read of the reply
abbrev pub IsHeardFront : List ℕ → Type 0
IsHeardFront heard = MatchBool (selects heard) (IsReplyFront (drop 2 heard)) (length heard ≤ 2)

-- the first bytes of a buffer came from the source, and no read failed
pub record Filled (old new : SourceState) (done : ℕ) (buf : List ℕ) : Type 0 where
  pub within : done ≤ length buf
  pub moved : IsTrue old.tells → old.left ≡ take done buf ++ new.left
  pub faults_same : new.faults ≡ old.faults
  pub goes_on : SourceGoesOn old new
