use Rattle.std.proofs.Common.{length, ◌-◌}
use Rattle.px_templates.proofs.PieceLemmas.{HasParts}
use Rattle.px_templates.proofs.runs.push_parts.Given as goal

abbrev pub invariant-parts : goal.invariant-parts
invariant-parts l = HasParts l.fn.runs.items l.condition l.text l.from l.at l.runs.items

abbrev pub decreases-parts : goal.decreases-parts
decreases-parts l = length l.text - l.at
