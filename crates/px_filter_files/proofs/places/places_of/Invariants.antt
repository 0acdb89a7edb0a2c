use Rattle.std.proofs.Common.{◌≡◌, ℕ, List, take}
use Rattle.px_filter_files.specs.FilterFiles.{has_key}
use Rattle.px_filter_files.specs.Places.{first_place, place_in}
use Rattle.px_filter_files.proofs.places.places_of.Given as goal

abbrev pub invariant-loop-at : goal.invariant-loop-at
invariant-loop-at l =
    (name : List ℕ) → place_in l.map name ≡ first_place (has_key (record { kind = l.kind; name = name })) (take l.at l.filters)
