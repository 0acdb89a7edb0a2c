use Rattle.std.proofs.Common.{◌∙◌, arith}
use Rattle.std.specs.Arc.{arc_value}
use Rattle.px_publish.proofs.ViewLemmas.{current_behind}
use Rattle.px_publish.proofs.fixed.StepConfigConfigs.current.Goals as goal

pub returns-clause-config : goal.returns-clause-config
returns-clause-config g c =
    let me = c.args.self.now in let inside = me.inside in let forward = me.forward in
    current_behind arc_value _ me.rest.items me.number _ (omega arith) (c.deref.ensures ∙ c.held.ensures)
