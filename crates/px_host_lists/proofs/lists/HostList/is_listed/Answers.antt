use Rattle.std.proofs.Common.{◌∙◌, ap, sym}
use Rattle.std.specs.Prelude.{is_some}
use Rattle.px_host_lists.proofs.ListedLemmas.{unlisted-above, unlisted-exact}
use Rattle.px_host_lists.proofs.lists.HostList.is_listed.Goals as goal

pub returns-clause-exact : goal.returns-clause-exact
returns-clause-exact c e = unlisted-exact c.args.self.now c.args.host.now (ap is_some (sym c.find.ensures) ∙ (sym c.is_some.ensures ∙ e))

pub returns-clause-above : goal.returns-clause-above
returns-clause-above c e = unlisted-above c.args.self.now c.args.host.now (ap is_some (sym c.find.ensures) ∙ (sym c.is_some.ensures ∙ e))
