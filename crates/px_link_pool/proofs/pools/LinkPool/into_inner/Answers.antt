use Rattle.std.proofs.Common.{◌∙◌}
use Rattle.px_link_pool.proofs.ComingLemmas.{meets_left}
use Rattle.px_link_pool.proofs.BalanceLemmas.{balanced_others}
use Rattle.px_link_pool.proofs.JoinLemmas.{ended}
use Rattle.px_link_pool.proofs.pools.LinkPool.into_inner.Goals as goal

pub returns-clause-joined : goal.returns-clause-joined
returns-clause-joined g c = λ t. c.close_all.ensures.dials t ∙ ended _ _ _ _ _ (c.args.self.told t) (c.args.self.joins t)

pub returns-clause-balance : goal.returns-clause-balance
returns-clause-balance g c = balanced_others _ _ _ _ _ _ c.args.self.balance c.close_all.ensures.hung_up c.close_all.ensures.goes_on.hung_up_later

pub returns-clause-coming : goal.returns-clause-coming
returns-clause-coming g c = λ d k. let m = c.args.self.coming d k in λ t u. meets_left (record { ins = g.D.In.LocalSource.state; outs = g.D.Out.LocalSink.state }) d _ _ c.args.self.history (c.close_all.ensures.coming u) (m t u)
