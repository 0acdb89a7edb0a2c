use Rattle.std.proofs.Common.{◌≡◌, ◌+◌, drop, option_map}
use Rattle.px_templates.specs.Pieces.{end_place}
use Rattle.px_templates.proofs.fronts.end_place.Given as goal

abbrev pub invariant-loop-at : goal.invariant-loop-at
invariant-loop-at l = end_place l.condition l.text ≡ option_map (λ n. n + l.at) (end_place l.condition (drop l.at l.text))
