use Rattle.px_pumps.proofs.PumpLemmas.{begun}
use Rattle.px_pumps.proofs.pumps.begin_behind.Goals as goal

pub returns-clause-after : goal.returns-clause-after
returns-clause-after c =
    begun c.args.warm.now _ c.args.settled.vars c.args.settled.framed c.args.rest.now c.args.out.now c.new.new.out c.feed.new.out c.in_ok-passage.passage c.feed.new.self
    c.new.ensures.same c.in_ok-passage.ensures.vars c.in_ok-passage.ensures.framed c.in_ok-feed.ensures.vars c.in_ok-feed.ensures.framed
    c.in_ok-passage.ensures.grows c.in_ok-feed.ensures.grows c.in_ok-passage.ensures.after c.in_ok-feed.ensures.after
