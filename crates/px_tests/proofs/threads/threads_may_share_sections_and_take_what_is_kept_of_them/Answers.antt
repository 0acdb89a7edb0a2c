use denote.Param.Send.{sendable}
use Rattle.px_merge.proofs.Crossing.{sections_send, sections_sync, warm_send}
use Rattle.px_tests.proofs.threads.threads_may_share_sections_and_take_what_is_kept_of_them.Goals as goal

pub shared-requires-send-T : goal.shared-requires-send-T
shared-requires-send-T g c κs = search (sendable, sections_send)

pub shared-requires-sync-T : goal.shared-requires-sync-T
shared-requires-sync-T g c κs = search (sendable, sections_sync)

pub sent-requires-send-T : goal.sent-requires-send-T
sent-requires-send-T g c κs = search (sendable, warm_send)
