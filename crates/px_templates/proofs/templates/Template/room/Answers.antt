use Rattle.std.proofs.Common.{◌∙◌, ◌+◌, ◌-◌, ◌^◌, refl, take}
use Rattle.px_templates.specs.Rendering.{rendered}
use Rattle.px_templates.specs.Runs.{held_pieces, run_pieces}
use Rattle.px_templates.proofs.RenderLemmas.{rendered-more, room-more}
use Rattle.px_templates.proofs.templates.Template.room.Goals as goal

pub loop-run-init : goal.loop-run-init
unfolding rendered held_pieces
loop-run-init c = refl

pub loop-run-preserved : goal.loop-run-preserved
loop-run-preserved c =
    let symbols = c.args.symbols.now in
    let runs = c.as_slice-run-items.result.now in
    let i = c.loop-run.run-index in
    c.saturating_add-room.ensures
    ∙ room-more (2 ^ 64 - 1) c.loop-run.room c.room.result (rendered symbols (held_pieces (take i runs))) (rendered symbols (run_pieces c.run-item.result))
    (rendered symbols (held_pieces (take (i + 1) runs))) c.loop-run.invariant c.room.ensures (rendered-more symbols runs i c.run-item.result c.loop-run-test.true c.run-item.is)
