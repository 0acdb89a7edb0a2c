use Rattle.std.proofs.Common.{sym, ◌∙◌}
use Rattle.px_answers.specs.Forms.{body_of}
use Rattle.px_answers.proofs.PassageLemmas.{ends_again, ends_held, ends_passing, whole_before}
use Rattle.px_answers.proofs.passages.finish.Goals as goal

pub conclude-requires-clause-own : goal.conclude-requires-clause-own
conclude-requires-clause-own c =
    let h = (rw c.in-Holding.is at c.requires.sound).0 in
    (c.raw_again.ensures c.args.framed.now.rule h.rest c.in-Holding.raw h.plain c.in-Holding.reader h.read c.stands-state.ensures.settled).own

pub conclude-requires-clause-whole : goal.conclude-requires-clause-whole
conclude-requires-clause-whole c is chunked =
    let f = c.args.framed.now in
    let h = (rw c.in-Holding.is at c.requires.sound).0 in
    let stands = c.stands-state.ensures.state f.rule h.rest c.in-Holding.raw h.plain h.read in
    (c.raw_again.ensures f.rule h.rest c.in-Holding.raw h.plain c.in-Holding.reader h.read c.stands-state.ensures.settled).whole (whole_before f.rule c.args.failed _ chunked (sym stands ∙ is)) chunked

pub returns-in_ok-outcome-in-Holding-clause-ended : goal.returns-in_ok-outcome-in-Holding-clause-ended
returns-in_ok-outcome-in-Holding-clause-ended c rest put held =
    let f = c.args.framed.now in
    let h = rw c.in-Holding.is at held in
    let again = c.raw_again.ensures f.rule rest c.in-Holding.raw h.plain c.in-Holding.reader h.read c.stands-state.ensures.settled in
    ends_held (record { filters = c.args.warm.now; vars = c.args.vars.now }) f rest put c.in-Holding.raw (body_of f.rule c.in-Holding.raw).plain c.args.out.now _ c.in-Holding.reader c.args.failed c.stands-state.result _ h
    (c.stands-state.ensures.state f.rule rest c.in-Holding.raw h.plain h.read) again.same c.in_ok-outcome-in-Holding.ensures.outcome c.in_ok-outcome-in-Holding.ensures.put

pub returns-in-Passing-clause-ended : goal.returns-in-Passing-clause-ended
returns-in-Passing-clause-ended c rest put passes =
    let f = c.args.framed.now in
    let h = rw c.in-Passing.is at passes in
    rw (c.passed_outcome.ensures, c.is_whole.ensures) (ends_passing (record { filters = c.args.warm.now; vars = c.args.vars.now }) f rest put c.args.out.now c.in-Passing.reader c.args.failed c.stands-state-in-Passing.result h
    (c.stands-state-in-Passing.ensures.state f.rule rest h.raw h.plain h.read))

pub returns-in-Ended-clause-ended : goal.returns-in-Ended-clause-ended
returns-in-Ended-clause-ended c rest put over = ends_again (record { filters = c.args.warm.now; vars = c.args.vars.now }) c.args.framed.now rest put c.args.out.now c.args.failed _ (rw c.in-Ended.is at over)
