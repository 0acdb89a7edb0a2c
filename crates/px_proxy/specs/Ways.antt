-- How workers carry tunnels.
use Rattle.px_ways.specs.declared.ways.Way.{Way}
use Rattle.px_ways.specs.declared.ways.Way.TheVariants as way

-- both directions are carried at once
abbrev pub IsAtOnce : {R : Type 0} → Way R → Type 0
IsAtOnce way.InTurn = ⊥
IsAtOnce (way.AtOnce rt) = Unit {0}
