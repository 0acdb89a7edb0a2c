use Rattle.std.proofs.Common.{◌-◌, length}
use Rattle.px_head.specs.Searches.{BeginsSearched}
use Rattle.px_streams.specs.Streams.{KeptStream}
use Rattle.px_streams.proofs.fronts.read_front.Given as goal

abbrev pub invariant-more : goal.invariant-more
invariant-more g l = record {
  kept : KeptStream (g.S.Source.state l.initial.source) (g.S.Source.state l.source) l.initial.ahead l.ahead;
  search : BeginsSearched l.limit l.ahead l.search;
}

abbrev pub decreases-more : goal.decreases-more
decreases-more g l = l.limit - length l.ahead
