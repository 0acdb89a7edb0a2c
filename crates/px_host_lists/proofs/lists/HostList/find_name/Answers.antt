use Rattle.std.proofs.Common.{◌∙◌, ap, sym}
use Rattle.px_host_lists.proofs.SlotLemmas.{above_at, first_behind, first_here}
use Rattle.px_host_lists.proofs.lists.HostList.find_name.Goals as goal

pub returns-in-Some : goal.returns-in-Some
returns-in-Some c = sym (c.labels.invariant ∙ first_here c.args.self.now c.labels.rest.now c.in-Some.line (sym c.in-Some.ensures))

pub returns-in-None-behind_dot : goal.returns-in-None-behind_dot
returns-in-None-behind_dot c =
    sym (c.labels.invariant ∙ (first_behind c.args.self.now c.labels.rest.now (sym c.in-None.ensures) ∙ ap (above_at c.args.self.now) (sym c.in-None-behind_dot.ensures.value)))

pub labels-preserved : goal.labels-preserved
labels-preserved c = c.labels.invariant ∙ (first_behind c.args.self.now c.labels.rest.now (sym c.in-None.ensures) ∙ ap (above_at c.args.self.now) (sym c.in-Some-behind_dot.ensures.value))
