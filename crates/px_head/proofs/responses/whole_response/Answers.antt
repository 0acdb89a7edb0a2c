use Rattle.std.proofs.Common.{◌≤◌, [], length, arith, ap, length-append}
use Rattle.httparse.specs.Grammar.{print_response}
use Rattle.httparse.specs.Spans.{IsResponseAt}
use Rattle.px_head.proofs.Fits.{response-fits}
use Rattle.px_head.proofs.responses.whole_response.Goals as goal

pub returns-else-found-block-clause-none : goal.returns-else-found-block-clause-none
returns-else-found-block-clause-none c h reads =
    let room : length h.fields ≤ length c.args.room.now = omega (arith, response-fits _ h reads, c.requires) in
    let at : IsResponseAt c.args.block.now c.parse_response.new.headers c.in-Ok-Complete.found h = rw c.in-Ok-Complete.field-0-is at (c.in-Ok-Complete.ensures.found h [] reads room) in
    c.if-found-block.false (omega (arith, at.len, ap length reads.1, length-append (print_response h) []))

pub returns-in-Err-clause-none : goal.returns-in-Err-clause-none
returns-in-Err-clause-none c h reads =
    let room : length h.fields ≤ length c.args.room.now = omega (arith, response-fits _ h reads, c.requires) in
    c.in-Err.ensures.found h [] reads room
