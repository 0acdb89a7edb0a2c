use Rattle.std.proofs.Common.{◌-◌, arith}
use Rattle.std.specs.Arc.{arc_value}
use Rattle.px_publish.proofs.ViewLemmas.{behind_first, behind_at}
use Rattle.px_publish.proofs.fixed.StepConfig.held.Goals as goal

pub returns-then-self-eq0 : goal.returns-then-self-eq0
returns-then-self-eq0 g c = behind_first _ _ _ c.if-self-eq0.true

pub returns-else-self-eq0 : goal.returns-else-self-eq0
returns-else-self-eq0 g c =
    let me = c.args.self.now in
    let inside = me.inside in let forward = me.forward in let some = c.if-self-eq0.false in
    behind_at arc_value _ me.rest.items me.number (me.number - 1) _ (omega arith) (omega arith) c.index.ensures
