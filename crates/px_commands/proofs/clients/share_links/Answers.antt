use denote.Param.Send.{sendable}
use Rattle.std.proofs.Crossing.{crosses}
use Rattle.std.proofs.Common.{refl}
use Rattle.px_serve.proofs.CallerLemmas.{serves_fitting}
use Rattle.px_commands.proofs.ClientLemmas.{shares_links}
use Rattle.px_link_pool.proofs.Crossing.{pool_send}
use Rattle.px_commands.proofs.clients.share_links.Goals as goal

pub returns : goal.returns
returns g c = record {
  serves = shares_links (record { ins = g.A.Dial.In.Source.state; outs = g.A.Dial.Out.Sink.state }) c.args.pages.tags _ _ _ _ _ _ _ _
      c.heard_is_enough.ensures c.pools_hear_fronts.ensures (serves_fitting refl (rw c.with_pool-pooled.ensures at c.serve_cold-session.ensures)) c.without_pool-ends.ensures;
}

pub serve_cold-session-requires-send-A-Dial : goal.serve_cold-session-requires-send-A-Dial
serve_cold-session-requires-send-A-Dial g c κs within = search (sendable, crosses, pool_send) depth 60 fits 20000
