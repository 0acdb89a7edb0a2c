use Rattle.std.proofs.Common.{◌≡◌, ◌≤◌, length, map, arith}
use Rattle.std.proofs.lemmas.List.{length-map}
use Rattle.std.specs.Arc.{arc_value}
use Rattle.px_publish.proofs.ViewLemmas.{takes_on, look_gives, next_looks, last_look}
use Rattle.px_publish.proofs.fixed.StepConfigConfigs.look.Goals as goal

pub returns-then-self-len-clause-goes_on : goal.returns-then-self-len-clause-goes_on
returns-then-self-len-clause-goes_on g c = takes_on _ _ _ _ c.args.self.now.forward

pub returns-then-self-len-clause-given : goal.returns-then-self-len-clause-given
returns-then-self-len-clause-given g c =
    let me = c.args.self.now in let inside = me.inside in
    λ _. look_gives (arc_value me.first) (map arc_value me.rest.items) me.next (omega (arith, inside, length-map me.rest.items arc_value))

pub returns-then-self-len-clause-coming : goal.returns-then-self-len-clause-coming
returns-then-self-len-clause-coming g c =
    let me = c.args.self.now in
    λ _. next_looks (arc_value me.first) (map arc_value me.rest.items) me.next (omega (arith, length-map me.rest.items arc_value))

pub returns-else-self-len-clause-goes_on : goal.returns-else-self-len-clause-goes_on
returns-else-self-len-clause-goes_on g c = takes_on _ _ _ _ c.args.self.now.forward

pub returns-else-self-len-clause-given : goal.returns-else-self-len-clause-given
returns-else-self-len-clause-given g c =
    let me = c.args.self.now in let inside = me.inside in
    λ _. look_gives (arc_value me.first) (map arc_value me.rest.items) me.next (omega (arith, inside, length-map me.rest.items arc_value))

pub returns-else-self-len-clause-coming : goal.returns-else-self-len-clause-coming
returns-else-self-len-clause-coming g c =
    let me = c.args.self.now in let inside = me.inside in
    λ _. last_look (arc_value me.first) (map arc_value me.rest.items) me.next (omega (arith, inside, length-map me.rest.items arc_value))
