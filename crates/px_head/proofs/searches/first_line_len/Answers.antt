use Rattle.std.proofs.Common.{arith, add-one}
use Rattle.px_head.proofs.LineLemmas.{no-feed, first-line}
use Rattle.px_head.proofs.searches.first_line_len.Goals as goal

pub returns-in-None : goal.returns-in-None
returns-in-None c = no-feed c.args.bytes.now (λ k l p. c.in-None.ensures k (omega arith) l p)

pub returns-in-Some : goal.returns-in-Some
returns-in-Some c =
    let found = c.in-Some.ensures in
    (omega (arith, found.0.high), rw add-one (first-line c.args.bytes.now c.in-Some.at found.0.high (λ j l p. found.0.before j (omega arith) l p) found.1))
