use Rattle.std.proofs.Common.{◌+◌, ◌-◌, length}
use Rattle.px_framing.specs.Passing.{bytes_left}
use Rattle.px_sending.specs.Pieces.{KeepsPieces}
use Rattle.px_sending.proofs.pieces.send_body.Given as goal

abbrev pub invariant-pieces : goal.invariant-pieces
invariant-pieces g l = KeepsPieces l.fn.rule (g.S.Source.state l.initial.client_in) (g.S.Source.state l.client_in) l.initial.ahead l.ahead (g.P.Sink.state l.initial.link_out) (g.P.Sink.state l.link_out) l.reader

-- at most that many pieces follow; the first may be empty
abbrev pub decreases-pieces : goal.decreases-pieces
decreases-pieces g l = bytes_left l.reader.stage + (1 - length l.ahead)
