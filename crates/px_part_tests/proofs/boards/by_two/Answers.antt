use denote.Param.Send.{sendable}
use Rattle.std.proofs.Crossing.{crosses}
use Rattle.px_tag_board.proofs.Crossing.{seat_send}
use Rattle.px_part_tests.proofs.boards.by_two.Goals as goal

pub for_each_mut-requires-send-T : goal.for_each_mut-requires-send-T
for_each_mut-requires-send-T g c κs within = search (sendable, crosses, seat_send) depth 40
