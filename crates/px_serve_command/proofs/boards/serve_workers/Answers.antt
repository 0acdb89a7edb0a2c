use denote.Param.Send.{sendable}
use Rattle.std.proofs.Crossing.{crosses}
use Rattle.px_tag_board.proofs.Crossing.{seat_send}
use Rattle.px_serve_command.proofs.Crossing.{logging_send}
use Rattle.px_serve_command.proofs.boards.serve_workers.Goals as goal

pub serve_all-requires-send-I : goal.serve_all-requires-send-I
serve_all-requires-send-I g c κs within = search (sendable, crosses, seat_send, logging_send) depth 60 fits 20000
