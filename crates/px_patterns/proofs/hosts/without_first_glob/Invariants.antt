use Rattle.px_patterns.proofs.FirstLabelLemmas.{Reaches}
use Rattle.px_patterns.proofs.hosts.without_first_glob.Given as goal

abbrev pub invariant-loop-at : goal.invariant-loop-at
invariant-loop-at l = Reaches l.items l.bytes l.at
