use Rattle.px_judging.specs.Given.{given_for}
use Rattle.px_judging.proofs.QuietLemmas.{quiet_of}
use Rattle.px_judging.proofs.judging.judge.Goals as goal

pub returns-clause-quiet : goal.returns-clause-quiet
returns-clause-quiet c =
    let handed = c.args.handed in
    quiet_of c.judge_reading.result (given_for c.args.running.now (record { last = handed.last; tags = c.as_slice.result.now; moment = handed.moment }) c.args.peer.now.address)
    handed.reading handed.page c.judge_reading.ensures.value
