-- How far a search for the end of a head block has come.
use Rattle.std.specs.Prelude.{◌≡◌, ℕ, ◌+◌, nat_lt, List, [], ◌++◌, length, take, All}
use Rattle.std.specs.List.{concat}
use Rattle.px_head.specs.Blocks.{NoFeed, IsEmptyLine, IsFullLine}
use Rattle.px_head.specs.declared.blocks.HeadEnd.{HeadEnd}
use Rattle.px_head.specs.declared.blocks.HeadEnd.TheVariants.{At, NotYet, Over}
use Rattle.px_head.specs.declared.searches.HeadSearch.{HeadSearch}

-- The search has passed whole lines of the bytes, none of which ends a block: empty ones, and then ones that aren't.
-- Of the next line it has looked at some bytes, and none of them is LF.
pub record HasPassed (bytes : List ℕ) (search : HeadSearch) : Type 0 where
  pub front : List (List ℕ)
  pub lines : List (List ℕ)
  pub text : List ℕ
  pub more : List ℕ
  pub bytes_are : bytes ≡ concat front ++ concat lines ++ text ++ more
  pub front_empty : All IsEmptyLine front
  pub lines_full : All IsFullLine lines
  pub no_feed : NoFeed text
  pub at : search.at ≡ length (concat front ++ concat lines)
  pub begun : search.begun ≡ nat_lt 0 (length lines)
  pub looked : search.looked ≡ search.at + length text

-- it has looked at all of the bytes up to the limit
pub record Searched (limit : ℕ) (bytes : List ℕ) (search : HeadSearch) : Type 0 where
  pub passed : HasPassed (take limit bytes) search
  pub looked : search.looked ≡ length (take limit bytes)

-- the bytes begin with ones that it has looked at
pub record BeginsSearched (limit : ℕ) (bytes : List ℕ) (search : HeadSearch) : Type 0 where
  pub front : List ℕ
  pub more : List ℕ
  pub is : bytes ≡ front ++ more
  pub searched : Searched limit front search

-- behind a block the search begins anew, and behind another answer it has looked at the bytes
abbrev pub SearchedOrAnew : ℕ → List ℕ → HeadEnd → HeadSearch → Type 0
SearchedOrAnew limit bytes (At n) search = (l : ℕ) → Searched l [] search
SearchedOrAnew limit bytes NotYet search = Searched limit bytes search
SearchedOrAnew limit bytes Over search = Searched limit bytes search
