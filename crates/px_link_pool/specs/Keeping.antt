-- When a link is kept, by what was seen of it alone.
use Rattle.std.specs.Prelude.{◌≡◌, ℕ, false, List, ◌++◌, codes}
use Rattle.std.specs.Str.{bytes_eq}
use Rattle.px_pool_ends.specs.Answers.{IsAnswer}
use Rattle.px_pool_ends.specs.Closings.{closing, IsHead, IsMethodOf}
use Rattle.px_pool_ends.specs.Incomings.{Hearing, outer_source, heard}
use Rattle.px_pool_ends.specs.Outgoings.{Sending, outer_sink}

-- the bytes begin with a request head that asks to close the link, and whose method isn't HEAD
pub record AsksToClose (written : List ℕ) : Type 0 where
  pub front : List ℕ
  pub rest : List ℕ
  pub method : List ℕ
  pub head : IsHead (front ++ closing)
  pub is : written ≡ (front ++ closing) ++ rest
  pub method_is : IsMethodOf (front ++ closing) method
  pub not_head : bytes_eq method (codes "HEAD") ≡ false

-- One whole answer was heard and nothing more, no read and no write failed, the end wasn't said, and what was written begins with
-- a head that asked to close the link: all of that is seen of a dial.
pub record IsSeenOpen (h : Hearing) (s : Sending) : Type 0 where
  pub answer : IsAnswer 8 (heard h)
  pub no_read_failed : (outer_source h).faults ≡ 0
  pub no_write_failed : (outer_sink s).faults ≡ 0
  pub unfinished : (outer_sink s).finished ≡ false
  pub asked : AsksToClose (outer_sink s).taken
