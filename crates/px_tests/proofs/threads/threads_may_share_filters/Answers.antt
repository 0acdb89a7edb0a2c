use denote.Param.Send.{sendable}
use Rattle.px_filter_files.proofs.Crossing.{filters_send, filters_sync}
use Rattle.px_tests.proofs.threads.threads_may_share_filters.Goals as goal

pub shared-requires-send-T : goal.shared-requires-send-T
shared-requires-send-T g c = search (sendable, filters_send)

pub shared-requires-sync-T : goal.shared-requires-sync-T
shared-requires-sync-T g c = search (sendable, filters_sync)
