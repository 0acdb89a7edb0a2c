use Rattle.px_streams.proofs.AheadLemmas.{read_on}
use Rattle.px_streams.proofs.ahead.fill.Goals as goal

pub returns-clause-bytes : goal.returns-clause-bytes
returns-clause-bytes g c = λ t.
    rw (← c.ahead.view_is)
    (read_on c.ahead.inside.at c.ahead.inside.bytes.items c.read_piece.new.bytes.items _ _ c.ahead.invariant c.in_ok-read_piece.ensures.added.1 (c.in_ok-read_piece.ensures.read t))
