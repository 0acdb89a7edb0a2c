use Rattle.std.proofs.Common.{length, ◌-◌}
use Rattle.px_templates.proofs.PieceLemmas.{HasPieces}
use Rattle.px_templates.proofs.templates.read_runs.Given as goal

abbrev pub invariant-fronts : goal.invariant-fronts
invariant-fronts l = HasPieces l.text l.from l.at l.runs.items

abbrev pub decreases-fronts : goal.decreases-fronts
decreases-fronts l = length l.text - l.at
