use denote.Param.Send.{sendable}
use Rattle.std.proofs.Crossing.{crosses}
use Rattle.px_tag_board.proofs.Crossing.{seat_send}
use Rattle.px_serve_command.proofs.boards.put_back.Goals as goal

pub into_inside-requires-send-I : goal.into_inside-requires-send-I
into_inside-requires-send-I g c κs within = search (sendable, crosses, seat_send) depth 60 fits 20000
