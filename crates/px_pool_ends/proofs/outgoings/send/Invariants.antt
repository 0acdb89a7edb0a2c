use Rattle.std.proofs.Common.{◌≡◌, ◌-◌, length}
use Rattle.px_pool_ends.specs.Outgoings.{SendsBytes}
use Rattle.px_pool_ends.proofs.outgoings.send.Given as goal

abbrev pub invariant-send : goal.invariant-send
invariant-send g l = record {
  sends : SendsBytes (g.O.LocalSink.state l.initial.sink) (g.O.LocalSink.state l.sink) l.bytes l.initial.at l.at;
  faults : (g.O.LocalSink.state l.sink).faults ≡ (g.O.LocalSink.state l.initial.sink).faults;
}

abbrev pub decreases-send : goal.decreases-send
decreases-send g l = length l.bytes - l.at
