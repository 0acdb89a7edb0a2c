use Rattle.std.proofs.Common.{refl}
use Rattle.px_link_pool.proofs.BalanceLemmas.{hangs_none, hangs_one}
use Rattle.px_link_pool.proofs.MarkLemmas.{not_both}
use Rattle.px_link_pool.proofs.StandingLemmas.{ready_seen}
use Rattle.px_link_pool.proofs.resting.look_at.Goals as goal

pub hang_up-requires-clause-open : goal.hang_up-requires-clause-open
hang_up-requires-clause-open g c = λ t. absurd (not_both c.has_ended.result (c.has_ended.ensures.told (c.requires.told t)).0 c.if-has_ended.true)

pub hang_up-requires-clause-one_mark : goal.hang_up-requires-clause-one_mark
hang_up-requires-clause-one_mark g c = λ t. absurd (not_both c.has_ended.result (c.has_ended.ensures.told (c.requires.told t)).0 c.if-has_ended.true)

pub returns-then-has_ended-clause-same_link : goal.returns-then-has_ended-clause-same_link
returns-then-has_ended-clause-same_link g c = λ t. absurd (not_both c.has_ended.result (c.has_ended.ensures.told (c.requires.told t)).0 c.if-has_ended.true)

pub returns-then-has_ended-clause-same : goal.returns-then-has_ended-clause-same
returns-then-has_ended-clause-same g c = λ t. absurd (not_both c.has_ended.result (c.has_ended.ensures.told (c.requires.told t)).0 c.if-has_ended.true)

pub returns-else-has_ended-clause-same_link : goal.returns-else-has_ended-clause-same_link
returns-else-has_ended-clause-same_link g c = λ t. rw (c.has_ended.ensures.told (c.requires.told t)).1 refl

pub returns-else-has_ended-clause-ready : goal.returns-else-has_ended-clause-ready
returns-else-has_ended-clause-ready g c = ready_seen c.args.link.host c.args.link.port (g.D.In.LocalSource.state c.args.link.source) (g.D.In.LocalSource.state c.has_ended.new.source) (g.D.Out.LocalSink.state c.args.link.sink) c.has_ended.ensures.goes_on c.requires.ready

pub returns-then-has_ended-clause-others : goal.returns-then-has_ended-clause-others
returns-then-has_ended-clause-others g c = hangs_one _ _ 1 0 c.hang_up.ensures.hung_up.opened_same c.hang_up.ensures.hung_up.hung_up refl

pub returns-else-has_ended-clause-others : goal.returns-else-has_ended-clause-others
returns-else-has_ended-clause-others g c = hangs_none _ 1 1 refl
