use Rattle.px_answers.proofs.PassageLemmas.{decoded}
use Rattle.px_answers.proofs.bodies.push_formed.Goals as goal

pub returns-in_ok-decode-in-Plain-clause-pushed : goal.returns-in_ok-decode-in-Plain-clause-pushed
returns-in_ok-decode-in-Plain-clause-pushed c =
    let steps = rw c.new-reader.ensures.first at c.in_ok-decode-in-Plain.ensures.steps in
    let settled = rw c.reader.view_is at c.reader.invariant in
    rw (c.in-Plain.is, decoded c.args.rule c.args.raw.now _ _ _ _ steps settled) c.in_ok-decode-in-Plain.ensures.plain
