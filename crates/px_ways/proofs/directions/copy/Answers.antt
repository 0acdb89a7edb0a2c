use Rattle.std.proofs.Common.{arith}
use Rattle.px_ways.proofs.DirectionLemmas.{moved_first, moved_more, moved_all, moved_most, moved_some, stops_first, fits}
use Rattle.px_ways.proofs.directions.copy.Goals as goal

pub pieces-init : goal.pieces-init
pieces-init g c = moved_first c.args.first.now (g.S.Source.state c.args.source.now) c.requires.short c.in_default.ensures.bytes c.in_default.ensures.cause c.write_all.ensures.«open» c.write_all.ensures.goes_on

pub pieces-preserved : goal.pieces-preserved
pieces-preserved g c = moved_more c.pieces.invariant c.in-Ok.ensures.copies c.copy_piece.ensures.«open» c.copy_piece.ensures.source_goes_on c.copy_piece.ensures.sink_goes_on (fits c.pieces.piece c.min-room.result c.pieces.left c.min-room.ensures)

pub returns-in-Ok-eq0-clause-carries : goal.returns-in-Ok-eq0-clause-carries
returns-in-Ok-eq0-clause-carries g c = moved_all c.pieces.invariant (rw c.in-Ok-eq0.field-0-test at c.in-Ok-eq0.ensures.copies) c.copy_piece.ensures.source_goes_on c.copy_piece.ensures.sink_goes_on

pub returns-in-Err-copy_piece-clause-carries : goal.returns-in-Err-copy_piece-clause-carries
returns-in-Err-copy_piece-clause-carries g c = moved_some c.in-Err-copy_piece.stop c.pieces.invariant c.in-Err-copy_piece.ensures.copies c.copy_piece.ensures.source_goes_on c.copy_piece.ensures.sink_goes_on (fits c.pieces.piece c.min-room.result c.pieces.left c.min-room.ensures)

pub returns-in-Err-clause-carries : goal.returns-in-Err-clause-carries
returns-in-Err-clause-carries g c = rw c.stop_of.ensures (stops_first _ _ _ c.in-Err.fault c.args.first.now (g.S.Source.state c.args.source.now) c.requires.short c.in-Err.ensures.bytes c.in-Err.ensures.cause c.write_all.ensures.goes_on)

pub returns-clause-carries : goal.returns-clause-carries
returns-clause-carries g c = moved_most (omega (arith, c.pieces-test.false)) c.pieces.invariant
