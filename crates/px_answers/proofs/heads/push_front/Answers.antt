use Rattle.std.proofs.Common.{ℕ, ◌-◌, take, ap, ◌∙◌}
use Rattle.px_answers.proofs.HeadLemmas.{front_is}
use Rattle.px_answers.proofs.heads.push_front.Goals as goal

pub returns-clause-pushed : goal.returns-clause-pushed
returns-clause-pushed c =
    let grows = rw (c.as_bytes.ensures, c.as_slice.ensures) at c.in_ok-print_head.ensures.ok in
    c.truncate.ensures ∙ ap (λ (n : ℕ). take n c.print_head.new.out) (c.saturating_sub-len.ensures ∙ ap (λ (n : ℕ). n - 2) c.len.ensures)
    ∙ front_is c.args.out.now c.args.framed.now c.print_head.new.out grows
