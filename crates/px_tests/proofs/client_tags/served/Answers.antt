use denote.Param.Send.{sendable}
use Rattle.px_doors.proofs.Crossing.{mem_doors_send}
use Rattle.px_tests.proofs.client_tags.served.Goals as goal

pub run_proxy-requires-send-A : goal.run_proxy-requires-send-A
run_proxy-requires-send-A g c κs within = search (sendable, mem_doors_send)
