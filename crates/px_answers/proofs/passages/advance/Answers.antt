use Rattle.std.proofs.Common.{arith}
use Rattle.px_answers.proofs.PassageLemmas.{holds_on, is_raw_on}
use Rattle.px_answers.proofs.passages.advance.Goals as goal

pub settle-requires : goal.settle-requires
settle-requires c =
    let h = (rw c.in-Holding.is at c.requires.sound).0 in
    record { raw = is_raw_on c.args.framed.now.rule c.in-Holding.raw _ c.args.piece.now c.in-Holding.reader _ h c.in_ok-take-in-Holding.ensures.takes c.in_ok-take-in-Holding.ensures.grows }

pub returns-in_ok-next-in-Holding-clause-after : goal.returns-in_ok-next-in-Holding-clause-after
returns-in_ok-next-in-Holding-clause-after c rest put held =
    let f = c.args.framed.now in
    let h = rw c.in-Holding.is at held in
    rw h.quiet (c.in_ok-next-in-Holding.ensures.after _ _ (holds_on f.rule rest c.in-Holding.raw _ h.plain c.args.piece.now c.in-Holding.reader _ h.read
    c.in_ok-take-in-Holding.ensures.takes c.in_ok-take-in-Holding.ensures.grows))

pub returns-in_ok-next-in-Holding-clause-room : goal.returns-in_ok-next-in-Holding-clause-room
returns-in_ok-next-in-Holding-clause-room c goes =
    rw c.in-Holding.is (omega (arith, c.in_ok-next-in-Holding.ensures.room, c.in_ok-take-in-Holding.ensures.left (c.in_ok-next-in-Holding.ensures.more goes)))

pub returns-in_ok-next-in-Passing-clause-after : goal.returns-in_ok-next-in-Passing-clause-after
returns-in_ok-next-in-Passing-clause-after c rest put passes = c.in_ok-next-in-Passing.ensures.after _ rest put (rw c.in-Passing.is at passes)
