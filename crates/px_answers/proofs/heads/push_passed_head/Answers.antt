use Rattle.std.proofs.Common.{sym}
use Rattle.px_answers.specs.Forms.{keeps_behind_answer}
use Rattle.px_answers.proofs.HeadLemmas.{head_is}
use Rattle.px_answers.proofs.heads.push_passed_head.Goals as goal

pub returns-clause-pushed : goal.returns-clause-pushed
returns-clause-pushed c =
    let f = c.args.framed.now in
    let lines = rw c.as_slice.ensures at c.in_ok-push_fields.ensures.pushed in
    rw (sym (head_is c.args.out.now c.push_front.new.out c.push_fields.new.out f f.framing (keeps_behind_answer f) c.in_ok-push_front.ensures.pushed lines)) (rw c.keeps.ensures at c.push_end.ensures.pushed)
