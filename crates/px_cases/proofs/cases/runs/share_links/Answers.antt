use denote.Param.Send.{sendable}
use Rattle.std.proofs.Crossing.{crosses}
use Rattle.px_link_pool.proofs.Crossing.{pool_send}
use Rattle.px_cases.proofs.cases.runs.share_links.Goals as goal

pub serve_cold-session-requires-send-A-Dial : goal.serve_cold-session-requires-send-A-Dial
serve_cold-session-requires-send-A-Dial g c κs within = search (sendable, crosses, pool_send) depth 60 fits 20000
