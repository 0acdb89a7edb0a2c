use Rattle.std.proofs.Common.{◌≡◌, ◌++◌}
use Rattle.std.specs.Prelude.{option_copied}
use Rattle.px_framing.specs.Rules.{items_of}
use Rattle.px_framing.proofs.RuleLemmas.{items_left, left}
use Rattle.px_framing.proofs.codings.add_items.Given as goal

abbrev pub invariant-items : goal.invariant-items
invariant-items l = l.initial.items ++ items_of l.value ≡ l.items ++ items_left (option_copied l.rest)

abbrev pub decreases-items : goal.decreases-items
decreases-items l = left (option_copied l.rest)
