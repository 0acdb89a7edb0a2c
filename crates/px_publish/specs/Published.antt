-- What publishers, receipts and readers show: lists of configurations, and the pair that they are of.
use Rattle.std.specs.Prelude.{List}
use Rattle.left_right.specs.declared.Absorb.{Ghosts}
use Rattle.px_publish.specs.Views.{Pair}
use Rattle.px_publish.specs.declared.publishers.Publisher.{Publisher}
use Rattle.px_publish.specs.declared.readers.ConfigReader.{ConfigReader}
use Rattle.px_publish.specs.declared.shared.SharedList.{SharedList}
use Rattle.px_publish.specs.declared.receipts.Receipt.{Receipt}

-- S and g are the library's view of what is shared, which says nothing here
module _ {C S : Type 0} {g : Ghosts (SharedList C) (SharedList C) S} where
  -- the published list
  abbrev pub published : Publisher C S g → List C
  published p = p.newest.front.seen.log

  abbrev pub pair_of : Publisher C S g → Pair
  pair_of p = p.newest.front.seen.book

module _ {C : Type 0} where
  -- the list that the receipt tells
  abbrev pub told_by : Receipt C → List C
  told_by r = r.held.front.seen.log

  abbrev pub receipt_pair : Receipt C → Pair
  receipt_pair r = r.held.front.seen.book

  -- the reader's view
  abbrev pub seen_by : ConfigReader C → List C
  seen_by r = r.held.front.seen.log

  abbrev pub reader_pair : ConfigReader C → Pair
  reader_pair r = r.held.front.seen.book
