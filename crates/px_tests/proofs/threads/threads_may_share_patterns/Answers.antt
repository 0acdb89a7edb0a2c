use denote.Param.Send.{sendable}
use Rattle.px_patterns.proofs.Crossing.{expression_send, expression_sync, tag_send, tag_sync, url_send, url_sync}
use Rattle.px_tests.proofs.threads.threads_may_share_patterns.Goals as goal

pub shared-requires-send-T : goal.shared-requires-send-T
shared-requires-send-T g c κs = search (sendable, url_send)

pub shared-requires-sync-T : goal.shared-requires-sync-T
shared-requires-sync-T g c κs = search (sendable, url_sync)

pub shared-requires-3-send-T : goal.shared-requires-3-send-T
shared-requires-3-send-T g c κs = search (sendable, tag_send)

pub shared-requires-3-sync-T : goal.shared-requires-3-sync-T
shared-requires-3-sync-T g c κs = search (sendable, tag_sync)

pub shared-requires-4-send-T : goal.shared-requires-4-send-T
shared-requires-4-send-T g c κs = search (sendable, expression_send)

pub shared-requires-4-sync-T : goal.shared-requires-4-sync-T
shared-requires-4-sync-T g c κs = search (sendable, expression_sync)
