use Rattle.std.proofs.Common.{◌≡◌, take}
use Rattle.std.specs.List.{fold}
use Rattle.px_answers.specs.Finished.{run_one}
use Rattle.px_answers.proofs.filtering.run_named.Given as goal

abbrev pub invariant-loop-name : goal.invariant-loop-name
invariant-loop-name l = (l.text ≡ fold (run_one (record { filters = l.initial.warm; vars = l.vars })) l.initial.text (take l.name-index l.names)) × (l.warm ≡ l.initial.warm)
