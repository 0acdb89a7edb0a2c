-- Heads: what was read of the heads at the front of an answer's bytes.
use Rattle.std.specs.Prelude.{◌≡◌, ℕ, suc, ◌+◌, ◌-◌, ◌*◌, ◌^◌, ◌<◌, ◌≤◌, ◌↔◌, ◌⊎◌, List, ◌++◌, length, drop}
use Rattle.px_head.specs.declared.TheConstants.{HEAD_LIMIT}
use Rattle.px_head.specs.declared.blocks.HeadEnd.TheVariants as end
use Rattle.px_head.specs.declared.searches.HeadSearch.{HeadSearch}
use Rattle.px_head.specs.Blocks.{head_end}
use Rattle.px_head.specs.Searches.{BeginsSearched, Searched}
use Rattle.px_pumps.specs.declared.heads.HeadRead.{HeadRead}
use Rattle.px_pumps.specs.declared.heads.HeadRead.TheVariants as read
use Rattle.px_pumps.specs.declared.heads.HeadsRead.{HeadsRead}
use Rattle.px_pumps.specs.declared.heads.HeadsRead.TheVariants as heads
use Rattle.px_pumps.specs.Answering.{Seen, Waiting, Bad, Good, Shows, ShowsBlock}

-- the bytes show that, and nothing else
pub record ShowsOnly (n : ℕ) (method bytes : List ℕ) (seen : Seen) : Type 0 where
  pub shows : Shows n method bytes seen
  pub only : (other : Seen) → Shows n method bytes other → other ≡ seen

-- what bytes show, of which at most n heads are read, is what others show behind whole interim heads, of which m more are read
abbrev pub LeadsPastInterims : ℕ → List ℕ → List ℕ → ℕ → List ℕ → Type 0
LeadsPastInterims n method bytes m rest = (more : List ℕ) (seen : Seen) → Shows m method (rest ++ more) seen ↔ Shows n method (bytes ++ more) seen

-- no block is whole in the bytes, and one may still be
abbrev pub IsWaiting : List ℕ → Type 0
IsWaiting bytes = (head_end HEAD_LIMIT bytes ≡ end.NotYet) × (length bytes < HEAD_LIMIT)

-- what a head shows that isn't an interim one
abbrev pub seen_of : HeadRead → List ℕ → Seen
seen_of read.NotYet rest = Waiting
seen_of read.Refused rest = Bad
seen_of (read.Interim count) rest = Bad
seen_of (read.Final head rule count) rest = Good head rule rest

-- a whole head was read that isn't an interim one
abbrev pub IsFinalRead : HeadRead → Type 0
IsFinalRead read.NotYet = ⊥
IsFinalRead read.Refused = Unit {0}
IsFinalRead (read.Interim count) = ⊥
IsFinalRead (read.Final head rule count) = Unit {0}

-- a whole head of so many bytes was read
abbrev pub EndsBehind : ℕ → HeadRead → Type 0
EndsBehind n read.NotYet = ⊥
EndsBehind n read.Refused = Unit {0}
EndsBehind n (read.Interim count) = count ≡ n
EndsBehind n (read.Final head rule count) = count ≡ n

-- what a head shows that was read so, and the bytes behind it, of which at most n heads are read
abbrev pub ShownBy : ℕ → List ℕ → HeadRead → List ℕ → Seen → Type 0
ShownBy n method read.NotYet rest seen = seen ≡ Waiting
ShownBy n method read.Refused rest seen = seen ≡ Bad
ShownBy n method (read.Interim count) rest seen = Shows n method rest seen
ShownBy n method (read.Final head rule count) rest seen = seen ≡ Good head rule rest

-- a block shows what was read of it, whatever follows
abbrev pub BlockShows : List ℕ → List ℕ → HeadRead → Type 0
BlockShows method block r = (n : ℕ) (rest : List ℕ) (seen : Seen) → ShownBy n method r rest seen ↔ ShowsBlock (Shows n method) method block rest seen

-- bytes show what was read of a head of so many bytes at their front, whatever follows
pub record HeadShows (method bytes : List ℕ) (r : HeadRead) (count : ℕ) : Type 0 where
  pub within : count ≤ length bytes
  pub same : (n : ℕ) (more : List ℕ) (seen : Seen) → ShownBy n method r (drop count bytes ++ more) seen ↔ Shows (suc n) method (bytes ++ more) seen

-- what was read of the head at the front of bytes
abbrev pub ReadsHead : List ℕ → List ℕ → HeadRead → Type 0
ReadsHead method bytes read.NotYet = IsWaiting bytes
ReadsHead method bytes read.Refused = HeadShows method bytes read.Refused 0
ReadsHead method bytes (read.Interim count) = HeadShows method bytes (read.Interim count) count
ReadsHead method bytes (read.Final head rule count) = HeadShows method bytes (read.Final head rule count) count

-- more pieces than this aren't needed behind so many bytes of a head, with which at most so many heads are read
abbrev pub heads_room : ℕ → ℕ → ℕ
heads_room left count = left * 2 ^ 17 + (HEAD_LIMIT - count)

-- a head isn't whole; it begins behind so many bytes, and with it at most m heads are read
pub record Waits (n : ℕ) (method bytes : List ℕ) (m from : ℕ) (search : HeadSearch) : Type 0 where
  pub some : 0 < m
  pub within : from ≤ length bytes
  pub leads : LeadsPastInterims n method bytes m (drop from bytes)
  pub waits : IsWaiting (drop from bytes)
  pub searched : Searched HEAD_LIMIT (drop from bytes) search
  pub falls : (count : ℕ) → count < length bytes → count < HEAD_LIMIT → heads_room m (length (drop from bytes)) < heads_room n count

-- what was read of the heads at the front of bytes, of which at most n are read
abbrev pub ReadsHeads : ℕ → List ℕ → List ℕ → HeadsRead → Type 0
ReadsHeads n method bytes (heads.Waiting left from search) = Waits n method bytes left from search
ReadsHeads n method bytes heads.Refused = (more : List ℕ) → ShowsOnly n method (bytes ++ more) Bad
ReadsHeads n method bytes (heads.Final head rule from) =
    (from ≤ length bytes) × ((more : List ℕ) → ShowsOnly n method (bytes ++ more) (Good head rule (drop from bytes ++ more)))

-- what the loop over the heads keeps: behind so many bytes a head begins, with which at most m heads are read
pub record AtHead (n : ℕ) (method bytes : List ℕ) (m from : ℕ) (search : HeadSearch) : Type 0 where
  pub within : from ≤ length bytes
  pub leads : LeadsPastInterims n method bytes m (drop from bytes)
  pub begins : BeginsSearched HEAD_LIMIT (drop from bytes) search
  pub fewer : ((from ≡ 0) × (m ≡ n)) ⊎ (m < n)
