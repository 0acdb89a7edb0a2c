use Rattle.std.proofs.Common.{length}
use Rattle.px_text.proofs.StepLemmas.{Continues}
use Rattle.px_text.proofs.lines.logical_lines.Given as goal

abbrev pub invariant-loop-rest : goal.invariant-loop-rest
invariant-loop-rest l = Continues l.text l.rest l.joining

abbrev pub decreases-loop-rest : goal.decreases-loop-rest
decreases-loop-rest l = length l.rest
