use Rattle.px_pumps.proofs.HeadLemmas.{read_shows}
use Rattle.px_pumps.proofs.heads.read_head.Goals as goal

pub returns-in_ok-read-in-At-clause-read : goal.returns-in_ok-read-in-At-clause-read
returns-in_ok-read-in-At-clause-read c =
    read_shows c.args.method.now c.args.bytes.now c.in-At.count c.in_ok-read-in-At.read c.in-At.ensures.within.1
    (λ more. c.in-At.ensures.stable more (λ e. cc)) c.in_ok-read-in-At.ensures.shows c.in_ok-read-in-At.ensures.count
