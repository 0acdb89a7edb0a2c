use Rattle.std.proofs.Common.{◌≡◌, ◌∙◌, subst, OnOk, List, ℕ}
use Rattle.px_templates.proofs.ReplyLemmas.{head_steps}
use Rattle.px_templates.proofs.replies.push_head.Goals as goal

pub returns : goal.returns
returns c =
    subst (λ (l : List ℕ). OnOk c.push_all.result (c.push_all.new.self ≡ l))
    (head_steps c.args.kind.now c.args.len c.args.close c.args.out.now c.push_status.new.out c.push_field.new.out c.push_field-2.new.out c.push_field-3.new.out
    c.push_field-4.new.out c.status.result.now c.first_name.result.now c.first_value.result.now c.as_bytes.result.now c.close_word.result.now c.status.ensures
    c.first_name.ensures c.first_value.ensures (c.as_bytes.ensures.value ∙ c.format.ensures.text) c.close_word.ensures c.in_ok-push_status.ensures
    c.in_ok-push_field.ensures c.in_ok-push_field-2.ensures c.in_ok-push_field-3.ensures c.in_ok-push_field-4.ensures)
    c.push_all.ensures.ok
