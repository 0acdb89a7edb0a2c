use Rattle.std.proofs.Common.{◌≡◌, ◌++◌, length}
use Rattle.px_text.proofs.PartLemmas.{clean}
use Rattle.px_text.proofs.parts.push_part.Given as goal

abbrev pub invariant-loop-at : goal.invariant-loop-at
invariant-loop-at l = l.initial.joined ++ clean 0 l.line ≡ l.joined ++ clean 0 l.rest

abbrev pub decreases-loop-at : goal.decreases-loop-at
decreases-loop-at l = length l.rest
