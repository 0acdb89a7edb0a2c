use Rattle.std.proofs.Common.{ap, sym, ◌∙◌, arith}
use Rattle.px_actions.specs.Sets.{updated}
use Rattle.px_actions.proofs.SetLemmas.{updated_all_step}
use Rattle.px_actions.proofs.sets.ActionSet.apply_all.Goals as goal

pub loop-update-preserved : goal.loop-update-preserved
loop-update-preserved c =
    let u = c.update-item.result in
    c.in_ok-apply.ensures.ok
    ∙ (ap (λ s. updated s u.kind u.change) c.loop-update.invariant
    ∙ sym (updated_all_step c.args.self.now c.args.updates.now c.loop-update.update-index u _ (omega (arith, c.loop-update-test.true)) c.update-item.is))
