use Rattle.std.proofs.Common.{◌≡◌, sym, ◌∙◌, false}
use Rattle.px_answers.specs.Forms.{body_of, is_more}
use Rattle.px_answers.proofs.PassageLemmas.{finishes}
use Rattle.px_answers.proofs.passages.settle.Goals as goal

pub conclude-requires-clause-own : goal.conclude-requires-clause-own
conclude-requires-clause-own c =
    let h = c.requires.raw in
    (c.raw_again.ensures c.args.framed.now.rule h.rest c.args.raw h.plain c.args.reader h.read c.state-state.ensures.settled).own

pub conclude-requires-clause-whole : goal.conclude-requires-clause-whole
conclude-requires-clause-whole c is =
    let h = c.requires.raw in
    (c.raw_again.ensures c.args.framed.now.rule h.rest c.args.raw h.plain c.args.reader h.read c.state-state.ensures.settled).whole (sym c.state-state.ensures.state ∙ is)

pub returns-then-not-is_more-clause-after : goal.returns-then-not-is_more-clause-after
returns-then-not-is_more-clause-after c rest plain read =
    let f = c.args.framed.now in
    let again = c.raw_again.ensures f.rule rest c.args.raw plain c.args.reader read c.state-state.ensures.settled in
    let over : is_more c.state-state.result ≡ false = cc in
    finishes (record { filters = c.args.warm.now; vars = c.args.vars.now }) f rest c.args.raw plain (body_of f.rule c.args.raw).plain c.args.out.now _ c.args.reader c.state-state.result _ read (sym c.state-state.ensures.state) over
    again.same c.in_ok-outcome.ensures.outcome c.in_ok-outcome.ensures.put
