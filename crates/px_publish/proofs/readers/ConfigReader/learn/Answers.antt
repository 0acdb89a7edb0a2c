use Rattle.std.proofs.Common.{subst}
use Rattle.px_publish.specs.Views.{GoesOn}
use Rattle.px_publish.proofs.ViewLemmas.{prefix_goes_on}
use Rattle.px_publish.proofs.readers.ConfigReader.learn.Goals as goal

pub returns-else-is_behind-clause-heard : goal.returns-else-is_behind-clause-heard
returns-else-is_behind-clause-heard g c =
    subst (λ h. GoesOn h.front.seen.log c.args.self.now.held.front.seen.log) c.into_held-told.ensures
    (prefix_goes_on _ _ (c.is_behind.ensures.ahead c.if-is_behind.false))
