use denote.Param.Send.{sendable}
use Rattle.px_doors.proofs.Crossing.{mem_doors_send}
use Rattle.px_tests.proofs.doors.doors_in_memory_may_go_to_another_thread.Goals as goal

pub sent-requires-send-T : goal.sent-requires-send-T
sent-requires-send-T c κs = search (sendable, mem_doors_send)
