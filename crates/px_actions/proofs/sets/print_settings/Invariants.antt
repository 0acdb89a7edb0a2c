use Rattle.std.proofs.Common.{◌≡◌, ◌++◌, take}
use Rattle.std.specs.List.{flat_map}
use Rattle.px_actions.specs.Kinds.{entry_of}
use Rattle.px_actions.specs.Sets.{setting_lines, setting_of}
use Rattle.px_actions.proofs.sets.print_settings.Given as goal

abbrev pub invariant-loop-kind : goal.invariant-loop-kind
invariant-loop-kind l = l.out ≡ l.initial.out ++ flat_map (λ kind. setting_lines (entry_of kind).name (setting_of l.fn.table kind)) (take l.kind-index l.kinds)
