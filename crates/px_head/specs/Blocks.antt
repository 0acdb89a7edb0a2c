-- A head block: the empty lines at the front, then the lines up to and with the next empty line.
-- A line ends with LF. An empty line is LF or CR LF.
use Rattle.std.specs.Prelude.{◌≡◌, ℕ, ◌<◌, ◌≤◌, Bool, true, false, not, if◌then◌else◌, ◌==◌, nat_lt, List, [], ◌∷◌, ◌++◌, length, take, Option, None, Some, option_map, All, IsTrue}
use Rattle.std.specs.List.{sum_by, concat, list_all}
use Rattle.px_head.specs.declared.blocks.HeadEnd.{HeadEnd}
use Rattle.px_head.specs.declared.blocks.HeadEnd.TheVariants.{At, NotYet, Over}

-- the line that the byte begins, before these lines; without one it is in no whole line
abbrev pub byte_before_lines : ℕ → List (List ℕ) → List (List ℕ)
byte_before_lines b [] = []
byte_before_lines b (l ∷ ls) = (b ∷ l) ∷ ls

-- the whole lines of the bytes, each with its LF
unfoldable pub whole_lines : List ℕ → List (List ℕ)
whole_lines [] = []
whole_lines (b ∷ bs) = if b == 10 then (10 ∷ []) ∷ whole_lines bs else byte_before_lines b (whole_lines bs)

-- the line is LF or CR LF
abbrev pub is_empty_line : List ℕ → Bool
is_empty_line [] = false
is_empty_line (b ∷ []) = b == 10
is_empty_line (b ∷ c ∷ []) = if b == 13 then c == 10 else false
is_empty_line (b ∷ c ∷ d ∷ bs) = false

-- the lines up to and with the first empty one, if there is one
unfoldable pub up_to_empty : List (List ℕ) → Option (List (List ℕ))
up_to_empty [] = None
up_to_empty (l ∷ ls) = if is_empty_line l then Some (l ∷ []) else option_map (λ block. l ∷ block) (up_to_empty ls)

-- the empty lines at the front, then the lines up to and with the next empty line
unfoldable pub block_of : List (List ℕ) → Option (List (List ℕ))
block_of [] = None
block_of (l ∷ ls) = if is_empty_line l then option_map (λ block. l ∷ block) (block_of ls) else up_to_empty (l ∷ ls)

-- the length of the block at the front of the bytes, if there is one
unfoldable pub block_len : List ℕ → Option ℕ
block_len bytes = option_map (λ block. sum_by length block) (block_of (whole_lines bytes))

-- where the block ends, if there is one, and whether there are fewer bytes than the limit
abbrev pub head_block_end : Option ℕ → Bool → HeadEnd
head_block_end (Some n) below = At n
head_block_end None true = NotYet
head_block_end None false = Over

-- where the block ends among the first bytes up to the limit
unfoldable pub head_end : ℕ → List ℕ → HeadEnd
head_end limit bytes = head_block_end (block_len (take limit bytes)) (nat_lt (length bytes) limit)

-- a block isn't empty and ends within the bytes and the limit; one that isn't whole has fewer bytes than the limit
abbrev pub EndsWithin : ℕ → ℕ → HeadEnd → Type 0
EndsWithin len limit (At n) = (0 < n) × (n ≤ len) × (n ≤ limit)
EndsWithin len limit NotYet = len < limit
EndsWithin len limit Over = limit ≤ len

-- no byte is LF
abbrev pub NoFeed : List ℕ → Type 0
NoFeed bytes = IsTrue (list_all (λ b. not (b == 10)) bytes)

-- a line: some bytes that aren't LF, and LF
pub record IsLine (line : List ℕ) : Type 0 where
  pub text : List ℕ
  pub is : line ≡ text ++ 10 ∷ []
  pub no_feed : NoFeed text

-- so many bytes at the front are a line, or there is no whole line
abbrev pub IsFirstLine : List ℕ → Option ℕ → Type 0
IsFirstLine bytes None = NoFeed bytes
IsFirstLine bytes (Some len) = (len ≤ length bytes) × IsLine (take len bytes)

-- an empty line, and a line that isn't empty
abbrev pub IsEmptyLine : List ℕ → Type 0
IsEmptyLine l = IsLine l × IsTrue (is_empty_line l)

abbrev pub IsFullLine : List ℕ → Type 0
IsFullLine l = IsLine l × IsTrue (not (is_empty_line l))

-- the bytes are a block: empty lines, lines that aren't empty and of which there is one at least, and an empty line
pub record IsHeadBlock (bytes : List ℕ) : Type 0 where
  pub front : List (List ℕ)
  pub lines : List (List ℕ)
  pub last : List ℕ
  pub bytes_are : bytes ≡ concat front ++ concat lines ++ last
  pub front_empty : All IsEmptyLine front
  pub lines_full : All IsFullLine lines
  pub some_line : 0 < length lines
  pub last_empty : IsEmptyLine last
