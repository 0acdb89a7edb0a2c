use Rattle.std.proofs.Common.{take}
use Rattle.px_taggers.specs.Places.{AreTaggerPlaces}
use Rattle.px_taggers.specs.Tagging.{in_force}
use Rattle.px_taggers.proofs.lines.places_in_force.Given as goal

abbrev pub invariant-names : goal.invariant-names
invariant-names l = AreTaggerPlaces l.filters l.side (take l.name-index (in_force l.side l.set)) l.places.items
