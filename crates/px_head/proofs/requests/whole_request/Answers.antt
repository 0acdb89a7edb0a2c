use Rattle.std.proofs.Common.{◌≤◌, [], length, arith, ap, length-append}
use Rattle.httparse.specs.Grammar.{print_request}
use Rattle.httparse.specs.Spans.{IsRequestAt}
use Rattle.px_head.proofs.Fits.{request-fits}
use Rattle.px_head.proofs.requests.whole_request.Goals as goal

pub returns-else-found-block-clause-none : goal.returns-else-found-block-clause-none
returns-else-found-block-clause-none c h reads =
    let room : length h.fields ≤ length c.args.room.now = omega (arith, request-fits _ h reads, c.requires) in
    let at : IsRequestAt c.args.block.now c.parse_request.new.headers c.in-Ok-Complete.found h = rw c.in-Ok-Complete.field-0-is at (c.in-Ok-Complete.ensures.found h [] reads room) in
    c.if-found-block.false (omega (arith, at.len, ap length reads.1, length-append (print_request h) []))

pub returns-in-Err-clause-none : goal.returns-in-Err-clause-none
returns-in-Err-clause-none c h reads =
    let room : length h.fields ≤ length c.args.room.now = omega (arith, request-fits _ h reads, c.requires) in
    c.in-Err.ensures.found h [] reads room
