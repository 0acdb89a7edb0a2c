use Rattle.px_pool_ends.proofs.HearLemmas.{follows_first}
use Rattle.px_pool_ends.proofs.incomings.Incoming.new.Goals as goal

pub invariant_of-result : goal.invariant_of-result
invariant_of-result g c =
    rw c.of.ensures
    (follows_first (g.S.LocalSource.state c.args.source) (g.O.LocalSink.state c.args.begun_out.value) c.args.host c.args.port c.first.result c.requires.whole c.first.ensures.settled c.first.ensures.stands)
