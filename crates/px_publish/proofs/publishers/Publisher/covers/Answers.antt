use Rattle.std.proofs.Common.{subst}
use Rattle.px_publish.specs.Views.{GoesOn}
use Rattle.px_publish.proofs.ViewLemmas.{prefix_goes_on, not_false}
use Rattle.px_publish.proofs.publishers.Publisher.covers.Goals as goal

pub returns-clause-prefix : goal.returns-clause-prefix
returns-clause-prefix g c = λ yes.
    subst (λ f. GoesOn f.seen.log c.args.self.now.newest.front.seen.log) c.front.ensures
    (prefix_goes_on _ _ (c.is_behind.ensures.ahead (not_false c.is_behind.result yes)))
