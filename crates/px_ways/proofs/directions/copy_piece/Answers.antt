use Rattle.std.proofs.Common.{rules, length}
use Rattle.px_ways.proofs.DirectionLemmas.{stops_in}
use Rattle.px_ways.proofs.directions.copy_piece.Goals as goal

pub returns-in-Err-write_all-clause-copies : goal.returns-in-Err-write_all-clause-copies
returns-in-Err-write_all-clause-copies g c = rw c.stop_of.ensures (stops_in _ _ (g.O.Sink.state c.args.sink.now) (g.O.Sink.state c.write_all.new.sink) c.read.new.buf c.in-Ok.count _ (length c.args.piece.now) c.in-Err-write_all.fault (search rules) c.in-Ok.ensures.bytes c.in-Ok.ensures.cause.ok c.in-Err-write_all.ensures.bytes c.in-Err-write_all.ensures.cause)
