use Rattle.std.proofs.Common.{sym}
use Rattle.px_answers.specs.Forms.{length_field}
use Rattle.px_answers.proofs.HeadLemmas.{head_one}
use Rattle.px_answers.proofs.heads.push_filtered_head.Goals as goal

pub returns-clause-pushed : goal.returns-clause-pushed
returns-clause-pushed c =
    let f = c.args.framed.now in
    let line = rw (c.as_bytes.ensures.value, c.format.ensures.text) at c.in_ok-push_line.ensures.pushed in
    rw (sym (head_one c.args.out.now c.push_front.new.out c.push_line.new.out f (length_field c.args.len) f.keep c.in_ok-push_front.ensures.pushed line)) c.push_end.ensures.pushed
