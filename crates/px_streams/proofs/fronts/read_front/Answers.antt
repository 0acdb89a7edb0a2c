use Rattle.std.proofs.Common.{◌∙◌, ◌++◌, ap, take}
use Rattle.px_streams.proofs.FrontLemmas.{block_stands}
use Rattle.px_streams.proofs.fronts.read_front.Goals as goal

pub returns-in-At-clause-stands : goal.returns-in-At-clause-stands
returns-in-At-clause-stands g c t =
    block_stands c.args.limit c.in-At.count (c.args.ahead.now ++ (g.S.Source.state c.args.source.now).left)
    c.more.ahead (g.S.Source.state c.more.source).left c.in_ok-block-in-At.block c.skip.new.self
    (c.more.invariant.kept.bytes t)
    (rw c.as_bytes.ensures at c.in-At.ensures.within.1)
    (rw c.as_bytes.ensures at (c.in-At.ensures.stable (g.S.Source.state c.more.source).left (λ e. cc)))
    (c.in_ok-block-in-At.ensures ∙ ap (take c.in-At.count) c.as_bytes-in-At.ensures)
    c.skip.ensures
