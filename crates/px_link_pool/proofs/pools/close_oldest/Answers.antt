use Rattle.std.proofs.Common.{◌≡◌, ◌∷◌, length, sym, ap}
use Rattle.px_link_pool.specs.Shelves.{items}
use Rattle.px_link_pool.specs.Standing.{kept_state}
use Rattle.px_link_pool.proofs.BalanceLemmas.{hangs_none, hangs_one}
use Rattle.px_link_pool.proofs.StandingLemmas.{with_oldest, oldest_open, stands_without_oldest}
use Rattle.px_link_pool.proofs.pools.close_oldest.Goals as goal

pub hang_up-requires-clause-open : goal.hang_up-requires-clause-open
hang_up-requires-clause-open g c =
    let e : c.in-Some.oldest ∷ items c.pop-rest.result.0 ≡ items c.args.kept = rw c.in-Some.is at c.pop-rest.ensures.joined in
    oldest_open _ _ _ (kept_state g.D.In.LocalSource.state g.D.Out.LocalSink.state c.in-Some.oldest) (with_oldest g.D.In.LocalSource.state g.D.Out.LocalSink.state _ _ _ _ _ c.requires.1 e)

pub returns-in-Some-clause-stands : goal.returns-in-Some-clause-stands
returns-in-Some-clause-stands g c = λ outer s.
    let e : c.in-Some.oldest ∷ items c.pop-rest.result.0 ≡ items c.args.kept = rw c.in-Some.is at c.pop-rest.ensures.joined in
    stands_without_oldest _ _ _ _ (kept_state g.D.In.LocalSource.state g.D.Out.LocalSink.state c.in-Some.oldest) _ (with_oldest g.D.In.LocalSource.state g.D.Out.LocalSink.state _ _ _ _ _ s e) c.hang_up.ensures.goes_on.tells_same c.hang_up.ensures.hung_up.dials

pub returns-in-Some-clause-hung_up : goal.returns-in-Some-clause-hung_up
returns-in-Some-clause-hung_up g c = hangs_one _ _ _ _ c.hang_up.ensures.hung_up.opened_same c.hang_up.ensures.hung_up.hung_up (ap length (rw c.in-Some.is at c.pop-rest.ensures.joined))

pub returns-in-None-clause-hung_up : goal.returns-in-None-clause-hung_up
returns-in-None-clause-hung_up g c = hangs_none _ _ _ (ap length (sym (rw c.in-None.is at c.pop-rest.ensures.joined)))
