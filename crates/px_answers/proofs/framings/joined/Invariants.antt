use Rattle.std.proofs.Common.{◌≡◌, ◌++◌, take, codes}
use Rattle.std.specs.Prelude.{flat_map}
use Rattle.px_answers.proofs.framings.joined.Given as goal

abbrev pub invariant-loop-coding : goal.invariant-loop-coding
invariant-loop-coding l = l.text ≡ l.first ++ flat_map (λ d. codes ", " ++ d) (take l.coding-index l.rest)
