use Rattle.std.proofs.Common.{◌++◌, length}
use Rattle.px_merge.specs.Finders.{AreAsked, AreOnce, KeepsPlaces, parted_places}
use Rattle.px_merge.proofs.parts.PlaceParts.new.Given as goal

abbrev pub invariant-places : goal.invariant-places
invariant-places l = record {
  kept : KeepsPlaces l.places (parted_places l.parts ++ l.rest);
  once : AreOnce l.places (parted_places l.parts ++ l.rest);
  asked : AreAsked l.sections l.parts.union l.parts.paths;
}

abbrev pub decreases-places : goal.decreases-places
decreases-places l = length l.rest
