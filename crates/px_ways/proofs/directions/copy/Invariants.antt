use Rattle.std.proofs.Common.{◌++◌}
use Rattle.px_ways.proofs.DirectionLemmas.{Moved}
use Rattle.px_ways.proofs.directions.copy.Given as goal

abbrev pub invariant-pieces : goal.invariant-pieces
invariant-pieces g l =
    Moved (l.first ++ (g.S.Source.state l.fn.source).left) (g.S.Source.state l.fn.source) (g.S.Source.state l.source) (g.O.Sink.state l.fn.sink) (g.O.Sink.state l.sink) l.left

abbrev pub decreases-pieces : goal.decreases-pieces
decreases-pieces g l = l.left
