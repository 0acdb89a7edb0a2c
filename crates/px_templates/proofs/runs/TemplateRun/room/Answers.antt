use Rattle.std.proofs.Common.{◌∙◌, ◌-◌, ◌^◌, sym, ap, arith, length, min}
use Rattle.px_templates.specs.Rendering.{escaped}
use Rattle.px_templates.proofs.RenderLemmas.{content_bytes, content_falls, content_value, room-all, room-none}
use Rattle.px_templates.proofs.runs.TemplateRun.room.Goals as goal

pub returns-then-not-stands : goal.returns-then-not-stands
returns-then-not-stands c =
    let r = c.args.self.now in
    room-none (2 ^ 64 - 1) _ (content_falls c.args.symbols.now r.condition r.content (sym c.stands.ensures ∙ c.if-not-stands.true))

pub returns-in-Bytes : goal.returns-in-Bytes
returns-in-Bytes c =
    let r = c.args.self.now in
    let is = content_bytes c.args.symbols.now r.condition r.content c.in-Bytes.bytes (sym c.stands.ensures ∙ c.if-not-stands.false) c.in-Bytes.is in
    room-all (2 ^ 64 - 1) c.len.result _ (c.len.ensures ∙ ap length (sym is)) (omega arith)

pub returns-in-Value : goal.returns-in-Value
returns-in-Value c =
    let r = c.args.self.now in
    let is = content_value c.args.symbols.now r.condition r.content c.in-Value.symbol (sym c.stands.ensures ∙ c.if-not-stands.false) c.in-Value.is in
    c.escaped_room.ensures ∙ ap (λ l. min (length l) (2 ^ 64 - 1)) (ap escaped c.value.ensures ∙ sym is)
