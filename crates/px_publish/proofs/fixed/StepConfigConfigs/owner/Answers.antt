use Rattle.std.proofs.Common.{◌∷◌, map, take, arith}
use Rattle.std.specs.Arc.{arc_value}
use Rattle.px_publish.proofs.ViewLemmas.{owner_behind, owner_is}
use Rattle.px_publish.proofs.fixed.StepConfigConfigs.owner.Goals as goal

pub returns : goal.returns
returns g c =
    let me = c.args.self.now in let inside = me.inside in let forward = me.forward in
    let held = arc_value c.held.result.now in
    owner_is arc_value c.another_owner.result (arc_value me.first ∷ take me.number (map arc_value me.rest.items)) held c.another_owner.ensures
    (λ y e. owner_behind arc_value (arc_value me.first) me.rest.items me.number held y (omega arith) c.held.ensures e)
