use Rattle.std.proofs.Common.{sym, length}
use Rattle.px_framing.specs.Passing.{data_in}
use Rattle.px_sending.proofs.PieceLemmas.{passes_piece, stops_in_piece}
use Rattle.px_sending.proofs.pieces.send_piece.Goals as goal

pub returns-in-Err-write_both-clause-passes : goal.returns-in-Err-write_both-clause-passes
returns-in-Err-write_both-clause-passes g c t rule fed put plain a =
    stops_in_piece rule fed put plain c.args.ahead.now c.pass.new.line (data_in c.args.reader.now c.args.ahead.now) (g.P.Sink.state c.args.link_out.now).taken (g.P.Sink.state c.write_both.new.link_out).taken
    c.in-Ok.passed.whole c.in-Ok.passed.used c.in-Err-write_both.fault c.pass.new.self
    (rw (c.as_bytes-in-Ok.ensures, c.as_bytes-in-Ok-2.ensures) at (c.in-Err-write_both.ensures.bytes t)) (rw (c.as_bytes.ensures, c.clear.ensures) at (c.in-Ok.ensures.after rule fed put plain (length fed) a))

pub returns-in-Ok-write_both-clause-passes : goal.returns-in-Ok-write_both-clause-passes
returns-in-Ok-write_both-clause-passes g c t rule fed put plain a =
    passes_piece rule fed put plain c.args.ahead.now c.skip.new.self c.pass.new.line (data_in c.args.reader.now c.args.ahead.now) (g.P.Sink.state c.args.link_out.now).taken (g.P.Sink.state c.write_both.new.link_out).taken
    c.in-Ok.passed.whole c.in-Ok.passed.used c.state.result c.pass.new.self
    (rw (c.state.ensures.state, sym c.in-Ok.ensures.state) (rw c.as_bytes.ensures at c.in-Ok.ensures.used)) c.skip.ensures (rw (c.as_bytes-in-Ok.ensures, c.as_bytes-in-Ok-2.ensures) at (c.in-Ok-write_both.ensures.bytes t))
    (rw (c.as_bytes.ensures, c.clear.ensures) at (c.in-Ok.ensures.after rule fed put plain (length fed) a))
