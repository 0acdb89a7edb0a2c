use Rattle.std.proofs.Common.{◌≡◌, IsTrue, true, false, ◌∙◌, sym, ap, refl}
use mathlib.Core.Logic.{∥∥₁_map}
use Rattle.px_base.specs.Dials.{traffic}
use Rattle.px_pool_ends.specs.Incomings.{outer_source, inner_source}
use Rattle.px_pool_ends.specs.Outgoings.{outer_sink, inner_sink}
use Rattle.px_link_pool.specs.Histories.{dials_of, counted_up, is_link_wanting}
use Rattle.px_link_pool.specs.Joins.{over}
use Rattle.px_link_pool.specs.Standing.{kept_state}
use Rattle.px_link_pool.proofs.ComingLemmas.{meets_on}
use Rattle.px_link_pool.proofs.MarkLemmas.{IsLent, lent_by}
use Rattle.px_link_pool.proofs.StandingLemmas.{told_parts}
use Rattle.px_link_pool.proofs.HandingLemmas.{shelved_by, handed_by, none_stands, some_told, some_stands, shelved_states, same_kept, handed_tells, closes_some, closes_none, counted_by}
use Rattle.px_link_pool.proofs.BalanceLemmas.{counts_on_more, kept_one, kept_same, balanced_kept, balanced_closed}
use Rattle.px_link_pool.proofs.JoinLemmas.{joins_back}
use Rattle.px_link_pool.proofs.pools.LinkPoolDialer.hang_up.Goals as goal

pub invariant_of-self-in-None : goal.invariant_of-self-in-None
invariant_of-self-in-None g c =
    let lent : IsTrue (g.D.Dialer.state c.args.self.now.inner).tells → IsLent (over (record { ins = g.D.In.Source.state; outs = g.D.Out.Sink.state }) c.args.self.now.history) (dials_of inner_source inner_sink c.args.self.now.history) c.args.link_in c.args.link_out = λ t.
    lent_by (over (record { ins = g.D.In.Source.state; outs = g.D.Out.Sink.state }) c.args.self.now.history) (dials_of outer_source outer_sink c.args.self.now.history) (dials_of inner_source inner_sink c.args.self.now.history) c.args.link_in c.args.link_out (c.args.self.now.joins t).named (c.requires.open t) (c.requires.one_mark t) in
    let shelved = shelved_by c.args.self.now.kept c.replace-shelf.result c.shelve-rest.result.0 c.fill.new.slot c.shelve-rest.result.1 c.handed-link.result.0 c.handed-link.result.1 c.replace-shelf.ensures.value c.fill.ensures c.shelve-rest.ensures.kept c.shelve-rest.ensures.room c.shelve-rest.ensures.given in
    let handed = handed_by g.D.In.Source.state g.D.Out.Sink.state (g.D.Dialer.state c.args.self.now.inner) _ _ _ c.handed-link.result.0 c.args.link_in _ c.args.link_out _ (c.hung_up.ensures.dials inner_source inner_sink) c.of-noted_in.ensures c.of-noted_out.ensures c.handed-link.ensures.source c.handed-link.ensures.sink lent c.handed-link.ensures.later in
    let unfinished : c.handed-link.result.1 ≡ true → (g.D.Out.Sink.state c.handed-link.result.0.sink).finished ≡ false = λ e. rw c.handed-link.ensures.sink (c.handed-link.ensures.unfinished e) in
    record {
      stands = none_stands g.D.In.Source.state g.D.Out.Sink.state _ _ _ _ _ _ _ _ _ c.args.self.now.stands shelved c.in-None.is handed unfinished;
      told = λ t. handed_tells _ _ _ _ _ _ _ _ _ _ _ _ _ (c.args.self.now.told t) (same_kept _ _ _ _ _ _ _ c.of-noted_host.ensures (ap inner_source c.of-noted_in.ensures ∙ sym c.handed-link.ensures.source) (ap inner_sink c.of-noted_out.ensures ∙ sym c.handed-link.ensures.sink)) (closes_none g.D.In.Source.state g.D.Out.Sink.state _ _ c.in-None.is) (c.hung_up.ensures.inner _ _ _)
          (c.hung_up.ensures.kept (record { ins = g.D.In.Source.state; outs = g.D.Out.Sink.state })) (c.hung_up.ensures.due (record { ins = g.D.In.Source.state; outs = g.D.Out.Sink.state })) (shelved_states _ _ _ _ _ _ _ shelved) (rw (c.of-noted_in.ensures, c.of-noted_out.ensures) c.handed-link.ensures.exactly);
      joins = λ t. joins_back (record { ins = g.D.In.Source.state; outs = g.D.Out.Sink.state }) _ _ _ _ _ _ _ c.handed-link.result.0 _ _ _ c.args.link_in c.args.link_out (traffic (outer_source c.args.link_in) (outer_sink c.args.link_out)) (traffic (inner_source c.args.link_in) (inner_sink c.args.link_out)) (c.args.self.now.joins t) shelved c.args.self.now.stands t
          c.handed-link.ensures.source c.handed-link.ensures.sink c.handed-link.ensures.host c.handed-link.ensures.port (lent t) (c.handed-link.ensures.later (lent t).in_tells) (c.handed-link.ensures.judged (lent t).in_tells (lent t).out_tells).sent
          (rw (c.of-noted_in.ensures, c.of-noted_out.ensures) at (c.hung_up.ensures.over (record { ins = g.D.In.Source.state; outs = g.D.Out.Sink.state }))) (c.hung_up.ensures.home (record { ins = g.D.In.Source.state; outs = g.D.Out.Sink.state })) (c.hung_up.ensures.joined _ (record { ins = g.D.In.Source.state; outs = g.D.Out.Sink.state })) (closes_none g.D.In.Source.state g.D.Out.Sink.state _ _ c.in-None.is)
          (rw (c.of-noted_in.ensures, c.of-noted_out.ensures) at (c.hung_up.ensures.dials outer_source outer_sink)) (rw (c.of-noted_in.ensures, c.of-noted_out.ensures) at (c.hung_up.ensures.dials inner_source inner_sink)) (rw (c.of-noted_in.ensures, c.of-noted_out.ensures) at (c.hung_up.ensures.lent (record { ins = g.D.In.Source.state; outs = g.D.Out.Sink.state })));
      counts = counted_by c.lacks_memory.result c.args.self.now.wanting c.raised-self-3.result c.raised-self-3.ensures.exact ∙ ap (λ b. counted_up b c.args.self.now.wanting) c.lacks_memory.ensures ∙ ap (counted_up (is_link_wanting c.args.link_in c.args.link_out)) c.args.self.now.counts ∙ sym (rw (c.of-noted_in.ensures, c.of-noted_out.ensures) at c.hung_up.ensures.wanted);
      judged = λ t. ∥∥₁_map (c.args.self.now.judged t) (c.hung_up.ensures.judged (rw (c.of-noted_in.ensures, c.of-noted_out.ensures) (c.handed-link.ensures.judged (lent t).in_tells (lent t).out_tells)));
      servers = c.args.self.now.servers;
      coming = λ d k. let m = c.args.self.now.coming d k in λ t u. meets_on (record { ins = g.D.In.Source.state; outs = g.D.Out.Sink.state }) d _ _ c.args.self.now.history c.hung_up.result (c.hung_up.ensures.coming (record { ins = g.D.In.Source.state; outs = g.D.Out.Sink.state }) d) refl (m t u);
      balance = balanced_kept (g.D.Dialer.state c.args.self.now.inner) _ _ _ _ _ c.args.self.now.balance (counts_on_more _ _ _ c.raised-self-4.ensures.exact) (kept_one _ _ _ _ _ shelved c.in-None.is);
    }

pub hang_up-requires-clause-open : goal.hang_up-requires-clause-open
hang_up-requires-clause-open g c = λ t.
    let lent : IsTrue (g.D.Dialer.state c.args.self.now.inner).tells → IsLent (over (record { ins = g.D.In.Source.state; outs = g.D.Out.Sink.state }) c.args.self.now.history) (dials_of inner_source inner_sink c.args.self.now.history) c.args.link_in c.args.link_out = λ t.
    lent_by (over (record { ins = g.D.In.Source.state; outs = g.D.Out.Sink.state }) c.args.self.now.history) (dials_of outer_source outer_sink c.args.self.now.history) (dials_of inner_source inner_sink c.args.self.now.history) c.args.link_in c.args.link_out (c.args.self.now.joins t).named (c.requires.open t) (c.requires.one_mark t) in
    let shelved = shelved_by c.args.self.now.kept c.replace-shelf.result c.shelve-rest.result.0 c.fill.new.slot c.shelve-rest.result.1 c.handed-link.result.0 c.handed-link.result.1 c.replace-shelf.ensures.value c.fill.ensures c.shelve-rest.ensures.kept c.shelve-rest.ensures.room c.shelve-rest.ensures.given in
    let handed = handed_by g.D.In.Source.state g.D.Out.Sink.state (g.D.Dialer.state c.args.self.now.inner) _ _ _ c.handed-link.result.0 c.args.link_in _ c.args.link_out _ (c.hung_up.ensures.dials inner_source inner_sink) c.of-noted_in.ensures c.of-noted_out.ensures c.handed-link.ensures.source c.handed-link.ensures.sink lent c.handed-link.ensures.later in
    let unfinished : c.handed-link.result.1 ≡ true → (g.D.Out.Sink.state c.handed-link.result.0.sink).finished ≡ false = λ e. rw c.handed-link.ensures.sink (c.handed-link.ensures.unfinished e) in
    (some_told g.D.In.Source.state g.D.Out.Sink.state _ _ _ _ _ _ _ c.in-Some.closing _ _ c.args.self.now.stands shelved c.in-Some.is handed unfinished t).0

pub hang_up-requires-clause-one_mark : goal.hang_up-requires-clause-one_mark
hang_up-requires-clause-one_mark g c = λ t.
    let lent : IsTrue (g.D.Dialer.state c.args.self.now.inner).tells → IsLent (over (record { ins = g.D.In.Source.state; outs = g.D.Out.Sink.state }) c.args.self.now.history) (dials_of inner_source inner_sink c.args.self.now.history) c.args.link_in c.args.link_out = λ t.
    lent_by (over (record { ins = g.D.In.Source.state; outs = g.D.Out.Sink.state }) c.args.self.now.history) (dials_of outer_source outer_sink c.args.self.now.history) (dials_of inner_source inner_sink c.args.self.now.history) c.args.link_in c.args.link_out (c.args.self.now.joins t).named (c.requires.open t) (c.requires.one_mark t) in
    let shelved = shelved_by c.args.self.now.kept c.replace-shelf.result c.shelve-rest.result.0 c.fill.new.slot c.shelve-rest.result.1 c.handed-link.result.0 c.handed-link.result.1 c.replace-shelf.ensures.value c.fill.ensures c.shelve-rest.ensures.kept c.shelve-rest.ensures.room c.shelve-rest.ensures.given in
    let handed = handed_by g.D.In.Source.state g.D.Out.Sink.state (g.D.Dialer.state c.args.self.now.inner) _ _ _ c.handed-link.result.0 c.args.link_in _ c.args.link_out _ (c.hung_up.ensures.dials inner_source inner_sink) c.of-noted_in.ensures c.of-noted_out.ensures c.handed-link.ensures.source c.handed-link.ensures.sink lent c.handed-link.ensures.later in
    let unfinished : c.handed-link.result.1 ≡ true → (g.D.Out.Sink.state c.handed-link.result.0.sink).finished ≡ false = λ e. rw c.handed-link.ensures.sink (c.handed-link.ensures.unfinished e) in
    (told_parts (kept_state g.D.In.Source.state g.D.Out.Sink.state c.in-Some.closing) (some_told g.D.In.Source.state g.D.Out.Sink.state _ _ _ _ _ _ _ c.in-Some.closing _ _ c.args.self.now.stands shelved c.in-Some.is handed unfinished t).1).2

pub invariant_of-self : goal.invariant_of-self
invariant_of-self g c =
    let lent : IsTrue (g.D.Dialer.state c.args.self.now.inner).tells → IsLent (over (record { ins = g.D.In.Source.state; outs = g.D.Out.Sink.state }) c.args.self.now.history) (dials_of inner_source inner_sink c.args.self.now.history) c.args.link_in c.args.link_out = λ t.
    lent_by (over (record { ins = g.D.In.Source.state; outs = g.D.Out.Sink.state }) c.args.self.now.history) (dials_of outer_source outer_sink c.args.self.now.history) (dials_of inner_source inner_sink c.args.self.now.history) c.args.link_in c.args.link_out (c.args.self.now.joins t).named (c.requires.open t) (c.requires.one_mark t) in
    let shelved = shelved_by c.args.self.now.kept c.replace-shelf.result c.shelve-rest.result.0 c.fill.new.slot c.shelve-rest.result.1 c.handed-link.result.0 c.handed-link.result.1 c.replace-shelf.ensures.value c.fill.ensures c.shelve-rest.ensures.kept c.shelve-rest.ensures.room c.shelve-rest.ensures.given in
    let handed = handed_by g.D.In.Source.state g.D.Out.Sink.state (g.D.Dialer.state c.args.self.now.inner) _ _ _ c.handed-link.result.0 c.args.link_in _ c.args.link_out _ (c.hung_up.ensures.dials inner_source inner_sink) c.of-noted_in.ensures c.of-noted_out.ensures c.handed-link.ensures.source c.handed-link.ensures.sink lent c.handed-link.ensures.later in
    let unfinished : c.handed-link.result.1 ≡ true → (g.D.Out.Sink.state c.handed-link.result.0.sink).finished ≡ false = λ e. rw c.handed-link.ensures.sink (c.handed-link.ensures.unfinished e) in
    record {
      stands = some_stands g.D.In.Source.state g.D.Out.Sink.state _ _ _ _ _ _ _ _ c.in-Some.closing _ _ _ c.args.self.now.stands shelved c.in-Some.is handed unfinished c.hang_up.ensures.goes_on.tells_same c.hang_up.ensures.hung_up.dials;
      told = λ t. let was = sym c.hang_up.ensures.goes_on.tells_same ∙ t in handed_tells _ _ _ _ _ _ _ _ _ _ _ _ _ (c.args.self.now.told was) (same_kept _ _ _ _ _ _ _ c.of-noted_host.ensures (ap inner_source c.of-noted_in.ensures ∙ sym c.handed-link.ensures.source) (ap inner_sink c.of-noted_out.ensures ∙ sym c.handed-link.ensures.sink)) (closes_some g.D.In.Source.state g.D.Out.Sink.state _ c.in-Some.closing _ _ c.in-Some.is (c.hang_up.ensures.hung_up.dials was)) (c.hung_up.ensures.inner _ _ _)
          (c.hung_up.ensures.kept (record { ins = g.D.In.Source.state; outs = g.D.Out.Sink.state })) (c.hung_up.ensures.due (record { ins = g.D.In.Source.state; outs = g.D.Out.Sink.state })) (shelved_states _ _ _ _ _ _ _ shelved) (rw (c.of-noted_in.ensures, c.of-noted_out.ensures) c.handed-link.ensures.exactly);
      joins = λ t. let was = sym c.hang_up.ensures.goes_on.tells_same ∙ t in joins_back (record { ins = g.D.In.Source.state; outs = g.D.Out.Sink.state }) _ _ _ _ _ _ _ c.handed-link.result.0 _ _ _ c.args.link_in c.args.link_out (traffic (outer_source c.args.link_in) (outer_sink c.args.link_out)) (traffic (inner_source c.args.link_in) (inner_sink c.args.link_out)) (c.args.self.now.joins was) shelved c.args.self.now.stands was
          c.handed-link.ensures.source c.handed-link.ensures.sink c.handed-link.ensures.host c.handed-link.ensures.port (lent was) (c.handed-link.ensures.later (lent was).in_tells) (c.handed-link.ensures.judged (lent was).in_tells (lent was).out_tells).sent
          (rw (c.of-noted_in.ensures, c.of-noted_out.ensures) at (c.hung_up.ensures.over (record { ins = g.D.In.Source.state; outs = g.D.Out.Sink.state }))) (c.hung_up.ensures.home (record { ins = g.D.In.Source.state; outs = g.D.Out.Sink.state })) (c.hung_up.ensures.joined _ (record { ins = g.D.In.Source.state; outs = g.D.Out.Sink.state })) (closes_some g.D.In.Source.state g.D.Out.Sink.state _ c.in-Some.closing _ _ c.in-Some.is (c.hang_up.ensures.hung_up.dials was))
          (rw (c.of-noted_in.ensures, c.of-noted_out.ensures) at (c.hung_up.ensures.dials outer_source outer_sink)) (rw (c.of-noted_in.ensures, c.of-noted_out.ensures) at (c.hung_up.ensures.dials inner_source inner_sink)) (rw (c.of-noted_in.ensures, c.of-noted_out.ensures) at (c.hung_up.ensures.lent (record { ins = g.D.In.Source.state; outs = g.D.Out.Sink.state })));
      counts = counted_by c.lacks_memory.result c.args.self.now.wanting c.raised-self-3.result c.raised-self-3.ensures.exact ∙ ap (λ b. counted_up b c.args.self.now.wanting) c.lacks_memory.ensures ∙ ap (counted_up (is_link_wanting c.args.link_in c.args.link_out)) c.args.self.now.counts ∙ sym (rw (c.of-noted_in.ensures, c.of-noted_out.ensures) at c.hung_up.ensures.wanted);
      judged = λ t. let was = sym c.hang_up.ensures.goes_on.tells_same ∙ t in ∥∥₁_map (c.args.self.now.judged was) (c.hung_up.ensures.judged (rw (c.of-noted_in.ensures, c.of-noted_out.ensures) (c.handed-link.ensures.judged (lent was).in_tells (lent was).out_tells)));
      servers = λ d k. c.hang_up.ensures.goes_on.through_servers_same ∙ c.args.self.now.servers d k;
      coming = λ d k. let m = c.args.self.now.coming d k in λ t u. let was = sym c.hang_up.ensures.goes_on.tells_same ∙ t in let told = sym c.hang_up.ensures.goes_on.tells_coming_same ∙ u in meets_on (record { ins = g.D.In.Source.state; outs = g.D.Out.Sink.state }) d _ _ c.args.self.now.history c.hung_up.result (c.hung_up.ensures.coming (record { ins = g.D.In.Source.state; outs = g.D.Out.Sink.state }) d) (c.hang_up.ensures.hung_up.coming_same told) (m was told);
      balance = balanced_closed (g.D.Dialer.state c.args.self.now.inner) (g.D.Dialer.state c.hang_up.new.self) _ _ _ _ _ c.args.self.now.balance (counts_on_more _ _ _ c.raised-self-4.ensures.exact) c.hang_up.ensures.hung_up.hung_up c.hang_up.ensures.hung_up.opened_same (kept_same _ _ _ _ c.in-Some.closing _ shelved c.in-Some.is);
    }
