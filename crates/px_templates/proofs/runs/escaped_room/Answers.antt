use Rattle.std.proofs.Common.{◌∙◌, ◌+◌, ◌-◌, ◌^◌, get_or, refl, take}
use Rattle.px_templates.specs.Rendering.{escaped, escaped_byte}
use Rattle.px_templates.proofs.RenderLemmas.{escaped-more, room-exact}
use Rattle.px_templates.proofs.runs.escaped_room.Goals as goal

pub loop-byte-init : goal.loop-byte-init
unfolding escaped
loop-byte-init c = refl

pub loop-byte-preserved : goal.loop-byte-preserved
loop-byte-preserved c =
    let value = c.args.value.now in
    let i = c.loop-byte.byte-index in
    c.saturating_add-room.ensures
    ∙ room-exact (2 ^ 64 - 1) c.loop-byte.room c.escaped_len.result (escaped (take i value)) (escaped_byte (get_or value i 0)) (escaped (take (i + 1) value))
    c.loop-byte.invariant c.escaped_len.ensures (escaped-more value i c.loop-byte-test.true)
