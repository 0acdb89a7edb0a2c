use Rattle.std.proofs.Common.{◌∙◌, ap, map, sym}
use Rattle.std.specs.Arc.{arc_value}
use Rattle.px_publish.specs.Views.{numbered}
use Rattle.px_publish.proofs.ViewLemmas.{first_and_rest}
use Rattle.px_publish.proofs.fixed.StepConfig.new.Goals as goal

pub returns-clause-coming : goal.returns-clause-coming
returns-clause-coming g c =
    rw (← c.into_vec-rest.ensures)
    (first_and_rest arc_value _ _ _ (rw c.into_vec-rest.ensures c.requires) c.remove-first.ensures.value c.remove-first.ensures.items)
