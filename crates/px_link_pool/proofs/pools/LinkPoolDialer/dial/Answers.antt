use Rattle.std.proofs.Common.{◌≡◌, IsTrue, refl, ap, ◌∙◌, sym}
use Rattle.px_link_pool.specs.Histories.{dials_of}
use Rattle.px_link_pool.specs.Joins.{over}
use Rattle.px_pool_ends.specs.Names.{passed_so_far}
use Rattle.px_pool_ends.specs.Incomings.{lent_source, outer_source, inner_source}
use Rattle.px_pool_ends.specs.Outgoings.{outer_sink, inner_sink}
use Rattle.px_link_pool.specs.Shelves.{items}
use Rattle.px_link_pool.specs.Standing.{kept_state, kept_states}
use Rattle.px_link_pool.proofs.ComingLemmas.{meets_on, meets_dialled}
use Rattle.px_link_pool.proofs.StandingLemmas.{TakenOff, taken_by, none_taken_by, ready_parts, again_on, again_new, told_parts, dialled_ok, dialled_err, stands_told, stands_seen}
use Rattle.px_base.specs.Dials.{LinkState}
use Rattle.px_link_pool.proofs.BalanceLemmas.{counts_on_more, balanced_others, balanced_again, balanced_dialled, balanced_refused}
use Rattle.px_link_pool.proofs.JoinLemmas.{there_by, same_label, joins_again, joins_dialled, joins_refused, told_by, unknown, fresh_given, tells_seen, joins_seen}
use mathlib.Core.Logic.{∥∥₁_map}
use Rattle.px_link_pool.proofs.HandingLemmas.{gone_by, found_by, none_found_by, again_tells, dialled_tells}
use Rattle.px_link_pool.proofs.pools.LinkPoolDialer.dial.Goals as goal

pub take_resting-rest-requires-clause-told : goal.take_resting-rest-requires-clause-told
take_resting-rest-requires-clause-told g c = rw c.replace-shelf.ensures.value c.args.self.now.stands.told

pub take_resting-rest-requires-clause-ready : goal.take_resting-rest-requires-clause-ready
take_resting-rest-requires-clause-ready g c = rw c.replace-shelf.ensures.value c.args.self.now.stands.ready

pub lend-requires-clause-whole : goal.lend-requires-clause-whole
lend-requires-clause-whole g c = (ready_parts (kept_state g.D.In.Source.state g.D.Out.Sink.state c.in-Some.kept) (rw c.in-Some.is at c.take_resting-rest.ensures.ready)).1

pub lend-requires-clause-unfinished : goal.lend-requires-clause-unfinished
lend-requires-clause-unfinished g c = (ready_parts (kept_state g.D.In.Source.state g.D.Out.Sink.state c.in-Some.kept) (rw c.in-Some.is at c.take_resting-rest.ensures.ready)).0

pub invariant_of-self : goal.invariant_of-self
invariant_of-self g c =
    let off : IsTrue (g.D.Dialer.state c.args.self.now.inner).tells → TakenOff g.D.In.Source.state g.D.Out.Sink.state (items c.args.self.now.kept) (items c.fill.new.slot) c.in-Some.kept = λ t. taken_by _ _ _ _ _ _ _ _ _ c.replace-shelf.ensures.value (c.take_resting-rest.ensures.taken t) (c.take_resting-rest.ensures.others t) c.fill.ensures c.in-Some.is in
    record {
      stands = stands_told _ _ _ (rw c.fill.ensures c.take_resting-rest.ensures.still_ready) (λ t. again_on _ _ _ _ _ _ _ _ _ _ _ _ (stands_seen (g.D.Dialer.state c.args.self.now.inner) (g.D.Dialer.state c.take_resting-rest.new.inner) (dials_of inner_source inner_sink c.args.self.now.history) (kept_states g.D.In.Source.state g.D.Out.Sink.state (items c.args.self.now.kept)) c.take_resting-rest.ensures.tells c.take_resting-rest.ensures.same c.args.self.now.stands t) (off (sym c.take_resting-rest.ensures.tells ∙ t)) (rw c.lend.ensures.source at (c.taken_again.ensures.dials inner_source inner_sink)) refl);
      told = λ t. let was = sym c.take_resting-rest.ensures.tells ∙ t in again_tells _ _ _ _ _ _ _ _ _ _ (tells_seen _ _ _ _ _ _ (c.take_resting-rest.ensures.same was) (c.args.self.now.told was)) (c.of-noted.ensures ∙ c.in_ok-name.ensures) (c.taken_again.ensures.inner _ _ _) (c.taken_again.ensures.kept (record { ins = g.D.In.Source.state; outs = g.D.Out.Sink.state })) (c.taken_again.ensures.due (record { ins = g.D.In.Source.state; outs = g.D.Out.Sink.state }))
          (gone_by _ _ c.args.host.now c.args.port _ _ _ _ c.replace-shelf.ensures.value (c.take_resting-rest.ensures.others was) c.fill.ensures) (found_by _ _ c.args.host.now c.args.port _ _ _ c.in-Some.kept c.replace-shelf.ensures.value (c.take_resting-rest.ensures.taken was) c.in-Some.is);
      joins = λ t. let was = sym c.take_resting-rest.ensures.tells ∙ t in
          let first = there_by g.D.In.Source.state g.D.Out.Sink.state c.args.host.now c.args.port _ _ _ c.in-Some.kept c.replace-shelf.ensures.value (c.take_resting-rest.ensures.taken was) c.in-Some.is in
          joins_again (record { ins = g.D.In.Source.state; outs = g.D.Out.Sink.state }) _ _ _ _ _ _ c.args.host.now _ c.args.port (kept_state g.D.In.Source.state g.D.Out.Sink.state c.in-Some.kept) first.0 (record { link_in = lent_source c.lend.result.0.host c.lend.result.0.port (g.D.In.Source.state c.in-Some.kept.source) (g.D.Out.Sink.state c.in-Some.kept.sink) (g.D.In.Source.state c.in-Some.kept.source) 0; link_out = g.D.Out.Sink.state c.in-Some.kept.sink }) (record { link_in = g.D.In.Source.state c.in-Some.kept.source; link_out = g.D.Out.Sink.state c.in-Some.kept.sink }) (joins_seen _ _ _ _ _ _ (c.take_resting-rest.ensures.same was) (c.args.self.now.joins was)) (c.args.self.now.told was).kept_is (c.of-noted.ensures ∙ c.in_ok-name.ensures) (c.taken_again.ensures.over (record { ins = g.D.In.Source.state; outs = g.D.Out.Sink.state })) (c.taken_again.ensures.joined _ (record { ins = g.D.In.Source.state; outs = g.D.Out.Sink.state })) (c.taken_again.ensures.home (record { ins = g.D.In.Source.state; outs = g.D.Out.Sink.state })) (c.taken_again.ensures.lent (record { ins = g.D.In.Source.state; outs = g.D.Out.Sink.state })) first.1
          (rw (c.lend.ensures.source, c.lend.ensures.begun, c.lend.ensures.begun_out) at (c.taken_again.ensures.dials outer_source outer_sink)) (rw c.lend.ensures.source at (c.taken_again.ensures.dials inner_source inner_sink))
          (same_label c.lend.result.0.host c.in-Some.kept.host c.lend.result.0.port c.in-Some.kept.port (g.D.In.Source.state c.in-Some.kept.source) (g.D.Out.Sink.state c.in-Some.kept.sink) (c.taken_again.ensures.host ∙ c.of-noted.ensures ∙ c.in_ok-name.ensures ∙ sym (rw c.in-Some.is at c.take_resting-rest.ensures.host)) (c.taken_again.ensures.port ∙ sym (rw c.in-Some.is at c.take_resting-rest.ensures.port))) refl refl ((off was).told (c.args.self.now.stands.told was)).0 (ready_parts (kept_state g.D.In.Source.state g.D.Out.Sink.state c.in-Some.kept) (rw c.in-Some.is at c.take_resting-rest.ensures.ready)).1 (off was).joined;
      counts = c.args.self.now.counts ∙ sym c.taken_again.ensures.wanted;
      judged = λ t. ∥∥₁_map (c.args.self.now.judged (sym c.take_resting-rest.ensures.tells ∙ t)) c.taken_again.ensures.judged;
      servers = λ d k. c.take_resting-rest.ensures.goes_on.through_servers_same ∙ c.args.self.now.servers d k;
      coming = λ d k. let m = c.args.self.now.coming d k in λ t u. let was = sym c.take_resting-rest.ensures.tells ∙ t in let told = sym c.take_resting-rest.ensures.goes_on.tells_coming_same ∙ u in
          meets_on (record { ins = g.D.In.Source.state; outs = g.D.Out.Sink.state }) d _ _ c.args.self.now.history c.taken_again.result (c.taken_again.ensures.coming (record { ins = g.D.In.Source.state; outs = g.D.Out.Sink.state }) d) (ap (λ x. x.coming) (c.take_resting-rest.ensures.same was)) (m was told);
      balance = rw c.fill.ensures (balanced_again (g.D.Dialer.state c.take_resting-rest.new.inner) _ _ _ _ (balanced_others _ _ _ _ _ _ c.args.self.now.balance (rw (c.replace-shelf.ensures.value, c.in-Some.is) at c.take_resting-rest.ensures.hung_up) c.take_resting-rest.ensures.goes_on.hung_up_later) (counts_on_more _ _ _ c.raised-self.ensures.exact));
    }

pub invariant_of-self-in-Ok : goal.invariant_of-self-in-Ok
invariant_of-self-in-Ok g c =
    let same : IsTrue (g.D.Dialer.state c.args.self.now.inner).tells → items c.fill.new.slot ≡ items c.args.self.now.kept = λ t. none_taken_by _ _ _ _ _ _ c.replace-shelf.ensures.value (c.take_resting-rest.ensures.taken t) (c.take_resting-rest.ensures.others t) c.fill.ensures c.in-None.is in
    record {
      stands = stands_told _ _ _ (rw c.fill.ensures c.take_resting-rest.ensures.still_ready) (λ n. let t = sym c.dial-asked.ensures.goes_on.tells_same ∙ n in dialled_ok _ _ _ _ (kept_states g.D.In.Source.state g.D.Out.Sink.state) _ _ c.args.host.now _ _ _ _ (record { link_in = g.D.In.Source.state c.in-Ok.source; link_out = g.D.Out.Sink.state c.in-Ok.sink }) (stands_seen (g.D.Dialer.state c.args.self.now.inner) (g.D.Dialer.state c.take_resting-rest.new.inner) (dials_of inner_source inner_sink c.args.self.now.history) (kept_states g.D.In.Source.state g.D.Out.Sink.state (items c.args.self.now.kept)) c.take_resting-rest.ensures.tells c.take_resting-rest.ensures.same c.args.self.now.stands t) (same (sym c.take_resting-rest.ensures.tells ∙ t)) c.dial-asked.ensures.goes_on.tells_same (rw c.lend-in-Ok.ensures.source at (c.dialled.ensures.dials inner_source inner_sink)) refl
          (rw c.in-Ok.is at c.dial-asked.ensures.dials) (rw c.in-Ok.is at c.dial-asked.ensures.told));
      told = λ n. let t = sym c.dial-asked.ensures.goes_on.tells_same ∙ n in let was = sym c.take_resting-rest.ensures.tells ∙ t in dialled_tells _ _ _ _ _ _ _ _ _ _ _ _ _ (tells_seen _ _ _ _ _ _ (c.take_resting-rest.ensures.same was) (c.args.self.now.told was)) (c.of-noted.ensures ∙ c.in_ok-name.ensures) c.of-noted_asked.ensures (c.dial-asked.ensures.dials t) (c.dialled.ensures.inner _ _ _)
          (c.dialled.ensures.kept (record { ins = g.D.In.Source.state; outs = g.D.Out.Sink.state })) (c.dialled.ensures.due (record { ins = g.D.In.Source.state; outs = g.D.Out.Sink.state }))
          (gone_by _ _ c.args.host.now c.args.port _ _ _ _ c.replace-shelf.ensures.value (c.take_resting-rest.ensures.others was) c.fill.ensures) (none_found_by _ _ c.args.host.now c.args.port _ _ _ c.replace-shelf.ensures.value (c.take_resting-rest.ensures.taken was) c.in-None.is);
      joins = λ n. let t = sym c.dial-asked.ensures.goes_on.tells_same ∙ n in let was = sym c.take_resting-rest.ensures.tells ∙ t in
          let i : LinkState = record { link_in = g.D.In.Source.state c.in-Ok.source; link_out = g.D.Out.Sink.state c.in-Ok.sink } in
          let told = (rw c.in-Ok.is at c.dial-asked.ensures.told) t in
          let fresh = rw c.in-Ok.is at c.dial-asked.ensures.fresh in
          let new = unknown _ _ _ i.link_in.mark (stands_seen (g.D.Dialer.state c.args.self.now.inner) (g.D.Dialer.state c.take_resting-rest.new.inner) (dials_of inner_source inner_sink c.args.self.now.history) (kept_states g.D.In.Source.state g.D.Out.Sink.state (items c.args.self.now.kept)) c.take_resting-rest.ensures.tells c.take_resting-rest.ensures.same c.args.self.now.stands t) t told.new_mark in
          joins_dialled (record { ins = g.D.In.Source.state; outs = g.D.Out.Sink.state }) _ _ _ _ _ _ _ _ _ _ _ _ _ _ i (record { link_in = lent_source c.lend-in-Ok.result.0.host c.lend-in-Ok.result.0.port (g.D.In.Source.state c.in-Ok.source) (g.D.Out.Sink.state c.in-Ok.sink) (g.D.In.Source.state c.in-Ok.source) 0; link_out = g.D.Out.Sink.state c.in-Ok.sink }) i (joins_seen _ _ _ _ _ _ (c.take_resting-rest.ensures.same was) (c.args.self.now.joins was)) (c.of-noted.ensures ∙ c.in_ok-name.ensures) c.of-noted_asked.ensures (rw c.in-Ok.is refl) (c.dial-asked.ensures.dials t) (c.dialled.ensures.over (record { ins = g.D.In.Source.state; outs = g.D.Out.Sink.state })) (c.dialled.ensures.home (record { ins = g.D.In.Source.state; outs = g.D.Out.Sink.state })) (c.dialled.ensures.joined _ (record { ins = g.D.In.Source.state; outs = g.D.Out.Sink.state })) (c.dialled.ensures.lent (record { ins = g.D.In.Source.state; outs = g.D.Out.Sink.state }))
          (rw (c.lend-in-Ok.ensures.source, c.lend-in-Ok.ensures.begun, c.lend-in-Ok.ensures.begun_out) at (c.dialled.ensures.dials outer_source outer_sink)) (rw c.lend-in-Ok.ensures.source at (c.dialled.ensures.dials inner_source inner_sink)) refl c.dialled.ensures.host c.dialled.ensures.port fresh.nothing_read refl told.in_tells (fresh_given i.link_in fresh.nothing_read) fresh.nothing_taken new.0 new.1 (ap (kept_states g.D.In.Source.state g.D.Out.Sink.state) (same was));
      counts = c.args.self.now.counts ∙ sym c.dialled.ensures.wanted;
      judged = λ n. let t = sym c.dial-asked.ensures.goes_on.tells_same ∙ n in ∥∥₁_map (c.args.self.now.judged (sym c.take_resting-rest.ensures.tells ∙ t)) c.dialled.ensures.judged;
      servers = λ d k. c.dial-asked.ensures.goes_on.through_servers_same ∙ c.take_resting-rest.ensures.goes_on.through_servers_same ∙ c.args.self.now.servers d k;
      coming = λ d k. let m = c.args.self.now.coming d k in let e = c.args.self.now.servers d k in λ n u. let t = sym c.dial-asked.ensures.goes_on.tells_same ∙ n in let was = sym c.take_resting-rest.ensures.tells ∙ t in
          let asks = sym c.dial-asked.ensures.goes_on.tells_coming_same ∙ u in let told = sym c.take_resting-rest.ensures.goes_on.tells_coming_same ∙ asks in
          meets_dialled (record { ins = g.D.In.Source.state; outs = g.D.Out.Sink.state }) d (g.D.Dialer.state c.take_resting-rest.new.inner) (g.D.Dialer.state c.dial-asked.new.self) c.args.self.now.history c.dialled.result c.args.host.now _ _ _ (c.dialled.ensures.coming (record { ins = g.D.In.Source.state; outs = g.D.Out.Sink.state }) d) (c.take_resting-rest.ensures.goes_on.through_servers_same ∙ e) (c.of-noted.ensures ∙ c.in_ok-name.ensures) c.of-noted_asked.ensures
          (c.dial-asked.ensures.coming asks) (c.dial-asked.ensures.coming_left asks)
          (meets_on (record { ins = g.D.In.Source.state; outs = g.D.Out.Sink.state }) d _ _ c.args.self.now.history c.args.self.now.history (λ left h. h) (ap (λ x. x.coming) (c.take_resting-rest.ensures.same was)) (m was told));
      balance = rw c.fill.ensures (balanced_dialled (g.D.Dialer.state c.take_resting-rest.new.inner) (g.D.Dialer.state c.dial-asked.new.self) _ _ _ _ (balanced_others _ _ _ _ _ _ c.args.self.now.balance (rw (c.replace-shelf.ensures.value, c.in-None.is) at c.take_resting-rest.ensures.hung_up) c.take_resting-rest.ensures.goes_on.hung_up_later) (rw c.in-Ok.is at c.dial-asked.ensures.cause.opened) c.dial-asked.ensures.cause.hung_up_same (counts_on_more _ _ _ c.raised-self-in-Ok.ensures.exact));
    }

pub invariant_of-self-in-Err : goal.invariant_of-self-in-Err
invariant_of-self-in-Err g c =
    let same : IsTrue (g.D.Dialer.state c.args.self.now.inner).tells → items c.fill.new.slot ≡ items c.args.self.now.kept = λ t. none_taken_by _ _ _ _ _ _ c.replace-shelf.ensures.value (c.take_resting-rest.ensures.taken t) (c.take_resting-rest.ensures.others t) c.fill.ensures c.in-None.is in
    record {
      stands = stands_told _ _ _ (rw c.fill.ensures c.take_resting-rest.ensures.still_ready) (λ n. let t = sym c.dial-asked.ensures.goes_on.tells_same ∙ n in dialled_err _ _ _ _ (kept_states g.D.In.Source.state g.D.Out.Sink.state) _ _ c.args.host.now _ _ c.in-Err.fault (stands_seen (g.D.Dialer.state c.args.self.now.inner) (g.D.Dialer.state c.take_resting-rest.new.inner) (dials_of inner_source inner_sink c.args.self.now.history) (kept_states g.D.In.Source.state g.D.Out.Sink.state (items c.args.self.now.kept)) c.take_resting-rest.ensures.tells c.take_resting-rest.ensures.same c.args.self.now.stands t) (same (sym c.take_resting-rest.ensures.tells ∙ t)) c.dial-asked.ensures.goes_on.tells_same (c.dialled-in-Err.ensures.dials inner_source inner_sink) (rw c.in-Err.is at c.dial-asked.ensures.dials));
      told = λ n. let t = sym c.dial-asked.ensures.goes_on.tells_same ∙ n in let was = sym c.take_resting-rest.ensures.tells ∙ t in dialled_tells _ _ _ _ _ _ _ _ _ _ _ _ _ (tells_seen _ _ _ _ _ _ (c.take_resting-rest.ensures.same was) (c.args.self.now.told was)) (c.of-noted.ensures ∙ c.in_ok-name.ensures) c.of-noted_asked.ensures (c.dial-asked.ensures.dials t) (c.dialled-in-Err.ensures.inner _ _ _)
          (c.dialled-in-Err.ensures.kept (record { ins = g.D.In.Source.state; outs = g.D.Out.Sink.state })) (c.dialled-in-Err.ensures.due (record { ins = g.D.In.Source.state; outs = g.D.Out.Sink.state }))
          (gone_by _ _ c.args.host.now c.args.port _ _ _ _ c.replace-shelf.ensures.value (c.take_resting-rest.ensures.others was) c.fill.ensures) (none_found_by _ _ c.args.host.now c.args.port _ _ _ c.replace-shelf.ensures.value (c.take_resting-rest.ensures.taken was) c.in-None.is);
      joins = λ n. let t = sym c.dial-asked.ensures.goes_on.tells_same ∙ n in let was = sym c.take_resting-rest.ensures.tells ∙ t in
          joins_refused (record { ins = g.D.In.Source.state; outs = g.D.Out.Sink.state }) _ _ _ _ _ _ _ _ _ _ _ _ c.in-Err.fault (joins_seen _ _ _ _ _ _ (c.take_resting-rest.ensures.same was) (c.args.self.now.joins was)) (c.of-noted.ensures ∙ c.in_ok-name.ensures) c.of-noted_asked.ensures (rw c.in-Err.is refl) (c.dial-asked.ensures.dials t) (c.dialled-in-Err.ensures.over (record { ins = g.D.In.Source.state; outs = g.D.Out.Sink.state })) (c.dialled-in-Err.ensures.home (record { ins = g.D.In.Source.state; outs = g.D.Out.Sink.state })) (c.dialled-in-Err.ensures.joined _ (record { ins = g.D.In.Source.state; outs = g.D.Out.Sink.state })) (c.dialled-in-Err.ensures.lent (record { ins = g.D.In.Source.state; outs = g.D.Out.Sink.state }))
          (c.dialled-in-Err.ensures.dials outer_source outer_sink) (c.dialled-in-Err.ensures.dials inner_source inner_sink) (ap (kept_states g.D.In.Source.state g.D.Out.Sink.state) (same was));
      counts = c.args.self.now.counts ∙ sym c.dialled-in-Err.ensures.wanted;
      judged = λ n. let t = sym c.dial-asked.ensures.goes_on.tells_same ∙ n in ∥∥₁_map (c.args.self.now.judged (sym c.take_resting-rest.ensures.tells ∙ t)) c.dialled-in-Err.ensures.judged;
      servers = λ d k. c.dial-asked.ensures.goes_on.through_servers_same ∙ c.take_resting-rest.ensures.goes_on.through_servers_same ∙ c.args.self.now.servers d k;
      coming = λ d k. let m = c.args.self.now.coming d k in let e = c.args.self.now.servers d k in λ n u. let t = sym c.dial-asked.ensures.goes_on.tells_same ∙ n in let was = sym c.take_resting-rest.ensures.tells ∙ t in
          let asks = sym c.dial-asked.ensures.goes_on.tells_coming_same ∙ u in let told = sym c.take_resting-rest.ensures.goes_on.tells_coming_same ∙ asks in
          meets_dialled (record { ins = g.D.In.Source.state; outs = g.D.Out.Sink.state }) d (g.D.Dialer.state c.take_resting-rest.new.inner) (g.D.Dialer.state c.dial-asked.new.self) c.args.self.now.history c.dialled-in-Err.result c.args.host.now _ _ _ (c.dialled-in-Err.ensures.coming (record { ins = g.D.In.Source.state; outs = g.D.Out.Sink.state }) d) (c.take_resting-rest.ensures.goes_on.through_servers_same ∙ e) (c.of-noted.ensures ∙ c.in_ok-name.ensures) c.of-noted_asked.ensures
          (c.dial-asked.ensures.coming asks) (c.dial-asked.ensures.coming_left asks)
          (meets_on (record { ins = g.D.In.Source.state; outs = g.D.Out.Sink.state }) d _ _ c.args.self.now.history c.args.self.now.history (λ left h. h) (ap (λ x. x.coming) (c.take_resting-rest.ensures.same was)) (m was told));
      balance = rw c.fill.ensures (balanced_refused (g.D.Dialer.state c.take_resting-rest.new.inner) (g.D.Dialer.state c.dial-asked.new.self) _ _ _ (balanced_others _ _ _ _ _ _ c.args.self.now.balance (rw (c.replace-shelf.ensures.value, c.in-None.is) at c.take_resting-rest.ensures.hung_up) c.take_resting-rest.ensures.goes_on.hung_up_later) (rw c.in-Err.is at c.dial-asked.ensures.cause.opened) c.dial-asked.ensures.cause.hung_up_same);
    }

pub returns-in-Some-clause-told : goal.returns-in-Some-clause-told
returns-in-Some-clause-told g c = λ t.
    let off : IsTrue (g.D.Dialer.state c.args.self.now.inner).tells → TakenOff g.D.In.Source.state g.D.Out.Sink.state (items c.args.self.now.kept) (items c.fill.new.slot) c.in-Some.kept = λ t. taken_by _ _ _ _ _ _ _ _ _ c.replace-shelf.ensures.value (c.take_resting-rest.ensures.taken t) (c.take_resting-rest.ensures.others t) c.fill.ensures c.in-Some.is in
    let parts = told_parts (kept_state g.D.In.Source.state g.D.Out.Sink.state c.in-Some.kept) ((off t).told (c.args.self.now.stands.told t)).0 in
    told_by _ (over (record { ins = g.D.In.Source.state; outs = g.D.Out.Sink.state }) c.args.self.now.history) (dials_of inner_source inner_sink c.args.self.now.history) _ (g.D.In.Source.state c.in-Some.kept.source).tells (g.D.Out.Sink.state c.in-Some.kept.sink).tells (g.D.In.Source.state c.in-Some.kept.source).mark (g.D.Out.Sink.state c.in-Some.kept.sink).mark (passed_so_far c.lend.result.0.host c.lend.result.0.port (g.D.In.Source.state c.in-Some.kept.source) (g.D.Out.Sink.state c.in-Some.kept.sink))
    (c.args.self.now.joins t).named (again_new g.D.In.Source.state g.D.Out.Sink.state _ _ _ _ c.in-Some.kept c.args.self.now.stands (off t) t) parts.0 parts.1 parts.2 (rw c.lend.ensures.source refl) (rw c.lend.ensures.sink refl) (rw (c.lend.ensures.source, c.lend.ensures.begun, c.lend.ensures.begun_out) refl) (rw (c.lend.ensures.sink, c.lend.ensures.begun_in, c.lend.ensures.also_begun, c.lend.ensures.host_out, c.lend.ensures.port_out) refl)

pub returns-in-Ok-clause-told : goal.returns-in-Ok-clause-told
returns-in-Ok-clause-told g c = λ was.
    let t = c.take_resting-rest.ensures.tells ∙ was in
    let told = (rw c.in-Ok.is at c.dial-asked.ensures.told) t in
    told_by _ (over (record { ins = g.D.In.Source.state; outs = g.D.Out.Sink.state }) c.args.self.now.history) (dials_of inner_source inner_sink c.args.self.now.history) _ (g.D.In.Source.state c.in-Ok.source).tells (g.D.Out.Sink.state c.in-Ok.sink).tells (g.D.In.Source.state c.in-Ok.source).mark (g.D.Out.Sink.state c.in-Ok.sink).mark (passed_so_far c.lend-in-Ok.result.0.host c.lend-in-Ok.result.0.port (g.D.In.Source.state c.in-Ok.source) (g.D.Out.Sink.state c.in-Ok.sink))
    (c.args.self.now.joins was).named (unknown _ _ _ _ (stands_seen (g.D.Dialer.state c.args.self.now.inner) (g.D.Dialer.state c.take_resting-rest.new.inner) (dials_of inner_source inner_sink c.args.self.now.history) (kept_states g.D.In.Source.state g.D.Out.Sink.state (items c.args.self.now.kept)) c.take_resting-rest.ensures.tells c.take_resting-rest.ensures.same c.args.self.now.stands t) t told.new_mark).0 told.in_tells told.out_tells told.one_mark (rw c.lend-in-Ok.ensures.source refl) (rw c.lend-in-Ok.ensures.sink refl) (rw (c.lend-in-Ok.ensures.source, c.lend-in-Ok.ensures.begun, c.lend-in-Ok.ensures.begun_out) refl) (rw (c.lend-in-Ok.ensures.sink, c.lend-in-Ok.ensures.begun_in, c.lend-in-Ok.ensures.also_begun, c.lend-in-Ok.ensures.host_out, c.lend-in-Ok.ensures.port_out) refl)
