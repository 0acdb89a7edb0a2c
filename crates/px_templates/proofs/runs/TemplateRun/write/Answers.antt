use Rattle.std.proofs.Common.{◌≡◌, ◌++◌, ◌∙◌, sym, ap, append-nil, subst, OnOk, List, ℕ}
use Rattle.px_templates.specs.Rendering.{escaped}
use Rattle.px_templates.proofs.RenderLemmas.{content_bytes, content_falls, content_value}
use Rattle.px_templates.proofs.runs.TemplateRun.write.Goals as goal

pub returns-then-not-stands : goal.returns-then-not-stands
returns-then-not-stands c =
    let r = c.args.self.now in
    let falls = content_falls c.args.symbols.now r.condition r.content (sym c.stands.ensures ∙ c.if-not-stands.true) in
    sym (ap (λ l. c.args.out.now ++ l) falls ∙ append-nil c.args.out.now)

pub returns-in-Bytes : goal.returns-in-Bytes
returns-in-Bytes c =
    let r = c.args.self.now in
    let is = content_bytes c.args.symbols.now r.condition r.content c.in-Bytes.bytes (sym c.stands.ensures ∙ c.if-not-stands.false) c.in-Bytes.is in
    subst (λ (l : List ℕ). OnOk c.push_all.result (c.push_all.new.self ≡ c.args.out.now ++ l)) (c.as_bytes.ensures ∙ sym is) c.push_all.ensures.ok

pub returns-in-Value : goal.returns-in-Value
returns-in-Value c =
    let r = c.args.self.now in
    let is = content_value c.args.symbols.now r.condition r.content c.in-Value.symbol (sym c.stands.ensures ∙ c.if-not-stands.false) c.in-Value.is in
    subst (λ (l : List ℕ). OnOk c.push_escaped.result (c.push_escaped.new.out ≡ c.args.out.now ++ l)) (ap escaped c.value.ensures ∙ sym is) c.push_escaped.ensures
