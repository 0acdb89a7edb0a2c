use Rattle.std.proofs.Common.{◌≡◌, suc, length, refl, sym, ◌∙◌, arith}
use Rattle.px_link_pool.specs.Shelves.{items}
use Rattle.px_link_pool.specs.Standing.{kept_state}
use Rattle.px_link_pool.proofs.BalanceLemmas.{found_one, found_none, hangs_on, none_when}
use Rattle.px_link_pool.proofs.StandingLemmas.{TakenOff, taken_by, told_parts, still_ready, dialer_goes_on}
use Rattle.px_link_pool.proofs.resting.take_resting.Goals as goal

pub returns-in_default-clause-still_ready : goal.returns-in_default-clause-still_ready
returns-in_default-clause-still_ready g c = rw c.take_at-rest.ensures.others (still_ready g.D.In.LocalSource.state g.D.Out.LocalSink.state _ (items c.looks.left) c.looks.invariant.ready)

pub look_at-requires-clause-told : goal.look_at-requires-clause-told
look_at-requires-clause-told g c = λ t.
    let off : TakenOff g.D.In.LocalSource.state g.D.Out.LocalSink.state (items c.looks.left) (items c.take_at-rest.result.0) c.in-Some.link = taken_by _ _ _ c.looks.left c.looks.left _ _ _ _ refl c.take_at-rest.ensures.taken c.take_at-rest.ensures.others refl c.in-Some.is in
    let was = sym c.looks.invariant.tells ∙ t in
    (told_parts (kept_state g.D.In.LocalSource.state g.D.Out.LocalSink.state c.in-Some.link) (off.told (rw (c.looks.invariant.all was) (c.requires.told was))).0).0

pub look_at-requires-clause-ready : goal.look_at-requires-clause-ready
look_at-requires-clause-ready g c =
    let off : TakenOff g.D.In.LocalSource.state g.D.Out.LocalSink.state (items c.looks.left) (items c.take_at-rest.result.0) c.in-Some.link = taken_by _ _ _ c.looks.left c.looks.left _ _ _ _ refl c.take_at-rest.ensures.taken c.take_at-rest.ensures.others refl c.in-Some.is in
    (off.ready c.looks.invariant.ready).0

pub returns-in-Some-look_at-clause-still_ready : goal.returns-in-Some-look_at-clause-still_ready
returns-in-Some-look_at-clause-still_ready g c = rw c.take_at-rest.ensures.others (still_ready g.D.In.LocalSource.state g.D.Out.LocalSink.state _ (items c.looks.left) c.looks.invariant.ready)

pub looks-preserved : goal.looks-preserved
looks-preserved g c = record {
  all = λ was. absurd (c.in_default-look_at.not-Some _ (c.look_at.ensures.same_link (c.looks.invariant.tells ∙ was)));
  same = λ was. c.look_at.ensures.same (c.looks.invariant.tells ∙ was) ∙ c.looks.invariant.same was;
  ready = rw c.take_at-rest.ensures.others (still_ready g.D.In.LocalSource.state g.D.Out.LocalSink.state _ (items c.looks.left) c.looks.invariant.ready);
  tells = c.look_at.ensures.tells ∙ c.looks.invariant.tells;
  names = c.look_at.ensures.names ∙ c.looks.invariant.names;
  reach = c.look_at.ensures.reach ∙ c.looks.invariant.reach;
  hung_up = let one : suc (length (items c.take_at-rest.result.0)) ≡ length (items c.looks.left) = found_one _ c.looks.left _ _ _ c.take_at-rest.ensures.taken c.take_at-rest.ensures.others c.in-Some.is in
      hangs_on _ _ _ _ _ 1 0 _ c.looks.invariant.hung_up (rw (none_when _ c.in_default-look_at.not-Some) at c.look_at.ensures.others) (omega (arith, one)) c.look_at.ensures.goes_on.hung_up_later;
  goes_on = dialer_goes_on _ _ _ c.looks.invariant.goes_on c.look_at.ensures.goes_on;
}

pub returns-in_default-clause-hung_up : goal.returns-in_default-clause-hung_up
returns-in_default-clause-hung_up g c = rw (found_none _ c.looks.left _ _ c.take_at-rest.ensures.taken c.take_at-rest.ensures.others c.in_default.not-Some) c.looks.invariant.hung_up

pub returns-in-Some-look_at-clause-hung_up : goal.returns-in-Some-look_at-clause-hung_up
returns-in-Some-look_at-clause-hung_up g c =
    let one : suc (length (items c.take_at-rest.result.0)) ≡ length (items c.looks.left) = found_one _ c.looks.left _ _ _ c.take_at-rest.ensures.taken c.take_at-rest.ensures.others c.in-Some.is in
    hangs_on _ _ _ _ _ 1 1 _ c.looks.invariant.hung_up (rw c.in-Some-look_at.is at c.look_at.ensures.others) (omega (arith, one)) c.look_at.ensures.goes_on.hung_up_later
