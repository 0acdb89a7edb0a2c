use Rattle.std.proofs.Common.{length, ◌-◌, ◌≡◌, ◌≤◌, ◌++◌, drop}
use Rattle.px_subst.specs.Words.{filled}
use Rattle.px_subst.proofs.words.filled.Given as goal

abbrev pub invariant-words : goal.invariant-words
invariant-words l = (l.at ≤ length l.text) × (filled l.vars l.text ≡ l.out.items ++ filled l.vars (drop l.at l.text))

abbrev pub decreases-words : goal.decreases-words
decreases-words l = length l.text - l.at
