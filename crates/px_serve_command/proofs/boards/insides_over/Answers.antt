use denote.Param.Send.{sendable}
use Rattle.std.proofs.Crossing.{crosses}
use Rattle.px_tag_board.proofs.Crossing.{seat_send}
use Rattle.px_serve_command.proofs.boards.insides_over.Goals as goal

pub new-requires-in-Some-send-I : goal.new-requires-in-Some-send-I
new-requires-in-Some-send-I g c κs within = search (sendable, crosses, seat_send) depth 60 fits 20000
