use Rattle.std.proofs.Common.{inl, refl}
use Rattle.std.specs.Net.ToAddrs.{host_addrs}
use Rattle.px_sockets.proofs.TurnLemmas.{none_tried, one_tried, in_turn, some_tried, all_tried}
use Rattle.px_sockets.proofs.tries.try_in_turn.Goals as goal

pub loop-address-init : goal.loop-address-init
loop-address-init g c = none_tried (g.T.Tries.tried c.args.tries.now) (host_addrs c.args.addresses)

pub returns-then-until-now-clause-in_turn : goal.returns-then-until-now-clause-in_turn
returns-then-until-now-clause-in_turn g c = in_turn _ _ _ _ _ c.loop-address.invariant c.now-now.ensures.tried_same

pub returns-in-Some-try_once-clause-in_turn : goal.returns-in-Some-try_once-clause-in_turn
returns-in-Some-try_once-clause-in_turn g c =
    in_turn _ _ _ _ _ (one_tried _ _ _ _ _ c.loop-address.addresses c.next.new.self c.in-Some.address c.loop-address.invariant c.in-Some.ensures.steps c.now-now.ensures.tried_same c.try_once.ensures.tried) refl

pub returns-in-Some-try_once-clause-reached : goal.returns-in-Some-try_once-clause-reached
returns-in-Some-try_once-clause-reached g c = some_tried _ _ _ _ _ _ c.in-Some.address c.loop-address.invariant c.now-now.ensures.tried_same c.try_once.ensures.tried

pub loop-address-preserved : goal.loop-address-preserved
loop-address-preserved g c =
    one_tried _ _ _ _ _ c.loop-address.addresses c.next.new.self c.in-Some.address c.loop-address.invariant c.in-Some.ensures.steps c.now-now.ensures.tried_same c.try_once.ensures.tried

pub returns-clause-in_turn : goal.returns-clause-in_turn
returns-clause-in_turn g c = in_turn _ _ _ _ _ c.loop-address.invariant refl

pub returns-clause-refused : goal.returns-clause-refused
returns-clause-refused g c = inl (all_tried _ _ _ c.loop-address.addresses c.next.new.self c.next.result c.loop-address.invariant c.next.ensures.steps c.in_default.not-Some)
