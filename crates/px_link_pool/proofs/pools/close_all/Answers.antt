use Rattle.std.proofs.Common.{◌≡◌, IsTrue, length, ◌∙◌, arith}
use Rattle.px_link_pool.proofs.BalanceLemmas.{hangs_on}
use Rattle.px_link_pool.specs.Shelves.{items}
use Rattle.px_link_pool.proofs.JoinLemmas.{nothing_left, none_stand}
use Rattle.px_link_pool.proofs.pools.close_all.Goals as goal

pub close_oldest-kept-requires-2 : goal.close_oldest-kept-requires-2
close_oldest-kept-requires-2 g c = (_, c.close_oldest-kept.ensures.stands _ c.requires.1)

pub close_oldest-kept-requires-3 : goal.close_oldest-kept-requires-3
close_oldest-kept-requires-3 g c = (_, c.close_oldest-kept-2.ensures.stands _ (c.close_oldest-kept.ensures.stands _ c.requires.1))

pub close_oldest-kept-requires-4 : goal.close_oldest-kept-requires-4
close_oldest-kept-requires-4 g c = (_, c.close_oldest-kept-3.ensures.stands _ (c.close_oldest-kept-2.ensures.stands _ (c.close_oldest-kept.ensures.stands _ c.requires.1)))

pub returns-clause-stands : goal.returns-clause-stands
returns-clause-stands g c = λ outer s.
    let none : length (items c.close_oldest-kept-4.result) ≡ 0 = omega (arith, c.close_oldest-kept.ensures.fewer, c.close_oldest-kept-2.ensures.fewer, c.close_oldest-kept-3.ensures.fewer, c.close_oldest-kept-4.ensures.fewer, c.close_oldest-kept.ensures.most) in
    none_stand g.D.In.LocalSource.state g.D.Out.LocalSink.state _ outer (items c.close_oldest-kept-4.result) none
    (c.close_oldest-kept-4.ensures.stands outer (c.close_oldest-kept-3.ensures.stands outer (c.close_oldest-kept-2.ensures.stands outer (c.close_oldest-kept.ensures.stands outer s))))

pub returns-clause-dials : goal.returns-clause-dials
returns-clause-dials g c = λ t.
    let two : IsTrue (g.D.LocalDialer.state c.close_oldest-kept.new.inner).tells = c.close_oldest-kept.ensures.tells ∙ t in
    let three : IsTrue (g.D.LocalDialer.state c.close_oldest-kept-2.new.inner).tells = c.close_oldest-kept-2.ensures.tells ∙ two in
    let four : IsTrue (g.D.LocalDialer.state c.close_oldest-kept-3.new.inner).tells = c.close_oldest-kept-3.ensures.tells ∙ three in
    nothing_left g.D.In.LocalSource.state g.D.Out.LocalSink.state (items c.close_oldest-kept-4.result) _ (omega (arith, c.close_oldest-kept.ensures.fewer, c.close_oldest-kept-2.ensures.fewer, c.close_oldest-kept-3.ensures.fewer, c.close_oldest-kept-4.ensures.fewer, c.close_oldest-kept.ensures.most))
    ∙ c.close_oldest-kept-4.ensures.dials four ∙ c.close_oldest-kept-3.ensures.dials three ∙ c.close_oldest-kept-2.ensures.dials two ∙ c.close_oldest-kept.ensures.dials t

pub returns-clause-hung_up : goal.returns-clause-hung_up
returns-clause-hung_up g c =
    let none : length (items c.close_oldest-kept-4.result) ≡ 0 = omega (arith, c.close_oldest-kept.ensures.fewer, c.close_oldest-kept-2.ensures.fewer, c.close_oldest-kept-3.ensures.fewer, c.close_oldest-kept-4.ensures.fewer, c.close_oldest-kept.ensures.most) in
    let two = hangs_on _ _ _ _ _ _ _ (length (items c.close_oldest-kept-2.result)) c.close_oldest-kept.ensures.hung_up c.close_oldest-kept-2.ensures.hung_up (omega arith) c.close_oldest-kept-2.ensures.goes_on.hung_up_later in
    let three = hangs_on _ _ _ _ _ _ _ (length (items c.close_oldest-kept-3.result)) two c.close_oldest-kept-3.ensures.hung_up (omega arith) c.close_oldest-kept-3.ensures.goes_on.hung_up_later in
    hangs_on _ _ _ _ _ _ _ _ three c.close_oldest-kept-4.ensures.hung_up (omega (arith, none)) c.close_oldest-kept-4.ensures.goes_on.hung_up_later

pub returns-clause-coming : goal.returns-clause-coming
returns-clause-coming g c = λ t.
    let two = c.close_oldest-kept.ensures.goes_on.tells_coming_same ∙ t in
    let three = c.close_oldest-kept-2.ensures.goes_on.tells_coming_same ∙ two in
    let four = c.close_oldest-kept-3.ensures.goes_on.tells_coming_same ∙ three in
    c.close_oldest-kept-4.ensures.coming four ∙ c.close_oldest-kept-3.ensures.coming three ∙ c.close_oldest-kept-2.ensures.coming two ∙ c.close_oldest-kept.ensures.coming t
