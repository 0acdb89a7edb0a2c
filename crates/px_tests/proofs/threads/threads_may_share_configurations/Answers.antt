use denote.Param.Send.{sendable}
use Rattle.px_config.proofs.Crossing.{config_send, config_sync}
use Rattle.px_tests.proofs.threads.threads_may_share_configurations.Goals as goal

pub shared-requires-send-T : goal.shared-requires-send-T
shared-requires-send-T g c = search (sendable, config_send)

pub shared-requires-sync-T : goal.shared-requires-sync-T
shared-requires-sync-T g c = search (sendable, config_sync)
