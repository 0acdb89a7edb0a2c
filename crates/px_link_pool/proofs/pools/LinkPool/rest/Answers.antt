use Rattle.std.proofs.Common.{sym, ◌∙◌}
use mathlib.Core.Logic.{∥∥₁_map}
use Rattle.px_pool_ends.specs.Incomings.{inner_source, outer_source}
use Rattle.px_pool_ends.specs.Outgoings.{inner_sink, outer_sink}
use Rattle.px_link_pool.specs.Histories.{dials_of}
use Rattle.px_link_pool.proofs.ComingLemmas.{meets_on}
use Rattle.px_link_pool.proofs.BalanceLemmas.{balanced_others}
use Rattle.px_link_pool.proofs.JoinLemmas.{ended, rested_tells, rested_joins}
use Rattle.px_link_pool.proofs.pools.LinkPool.rest.Goals as goal

pub close_all-requires : goal.close_all-requires
close_all-requires g c = (dials_of inner_source inner_sink c.args.self.now.history, rw c.replace-kept.ensures.value c.args.self.now.stands)

pub invariant_of-self : goal.invariant_of-self
invariant_of-self g c = record {
  stands = rw (c.rested.ensures.dials inner_source inner_sink, c.replace-kept.ensures.after) (c.close_all.ensures.stands _ (rw c.replace-kept.ensures.value c.args.self.now.stands));
  told = λ t. let was = sym c.close_all.ensures.tells ∙ t in
      rw c.replace-kept.ensures.after (rested_tells (record { ins = g.D.In.LocalSource.state; outs = g.D.Out.LocalSink.state }) _ _ _ _ _ _ (c.args.self.now.told was) (rw c.replace-kept.ensures.value at (c.close_all.ensures.dials was)) (rw (c.of-noted.ensures, c.replace-kept.ensures.value) at (c.rested.ensures.inner g.N.Base.dialled g.D.In.LocalSource.state g.D.Out.LocalSink.state)) (c.rested.ensures.kept (record { ins = g.D.In.LocalSource.state; outs = g.D.Out.LocalSink.state })) (c.rested.ensures.due (record { ins = g.D.In.LocalSource.state; outs = g.D.Out.LocalSink.state })));
  joins = λ t. let was = sym c.close_all.ensures.tells ∙ t in
      rw c.replace-kept.ensures.after (rested_joins (record { ins = g.D.In.LocalSource.state; outs = g.D.Out.LocalSink.state }) _ _ _ _ _ _ (c.args.self.now.joins was) (rw c.replace-kept.ensures.value at (c.close_all.ensures.dials was) ∙ ended _ _ _ _ _ (c.args.self.now.told was) (c.args.self.now.joins was)) (c.rested.ensures.joined _ (record { ins = g.D.In.LocalSource.state; outs = g.D.Out.LocalSink.state })) (c.rested.ensures.over (record { ins = g.D.In.LocalSource.state; outs = g.D.Out.LocalSink.state })) (c.rested.ensures.home (record { ins = g.D.In.LocalSource.state; outs = g.D.Out.LocalSink.state })) (c.rested.ensures.lent (record { ins = g.D.In.LocalSource.state; outs = g.D.Out.LocalSink.state })) (c.rested.ensures.dials outer_source outer_sink) (c.rested.ensures.dials inner_source inner_sink));
  counts = c.args.self.now.counts ∙ sym c.rested.ensures.wanted;
  judged = λ t. ∥∥₁_map (c.args.self.now.judged (sym c.close_all.ensures.tells ∙ t)) c.rested.ensures.judged;
  servers = λ d k. c.close_all.ensures.goes_on.through_servers_same ∙ c.args.self.now.servers d k;
  coming = λ d k. let m = c.args.self.now.coming d k in λ t u. let was = sym c.close_all.ensures.tells ∙ t in let told = sym c.close_all.ensures.goes_on.tells_coming_same ∙ u in meets_on (record { ins = g.D.In.LocalSource.state; outs = g.D.Out.LocalSink.state }) d _ _ c.args.self.now.history c.rested.result (c.rested.ensures.coming (record { ins = g.D.In.LocalSource.state; outs = g.D.Out.LocalSink.state }) d) (c.close_all.ensures.coming told) (m was told);
  balance = rw c.replace-kept.ensures.after (balanced_others _ _ _ _ _ _ c.args.self.now.balance (rw c.replace-kept.ensures.value at c.close_all.ensures.hung_up) c.close_all.ensures.goes_on.hung_up_later);
}

pub returns-clause-joined : goal.returns-clause-joined
returns-clause-joined g c = λ t. rw c.replace-kept.ensures.value at (c.close_all.ensures.dials t) ∙ ended _ _ _ _ _ (c.args.self.now.told t) (c.args.self.now.joins t)

pub returns-clause-balance : goal.returns-clause-balance
returns-clause-balance g c = balanced_others _ _ _ _ _ _ c.args.self.now.balance (rw c.replace-kept.ensures.value at c.close_all.ensures.hung_up) c.close_all.ensures.goes_on.hung_up_later
