use Rattle.px_actions.specs.Shapes.{fits}
use Rattle.px_actions.proofs.UpdateLemmas.{changes_fit}
use Rattle.px_actions.proofs.updates.read_change.Goals as goal

pub invariant_of-result : goal.invariant_of-result
unfolding fits
invariant_of-result c = record {
  kept = rw (← c.shape.ensures, ← c.rule.ensures) (changes_fit _ _ _ _ _ c.in_ok-change.ensures.change);
}
