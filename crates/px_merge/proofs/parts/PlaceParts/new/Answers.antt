use Rattle.std.proofs.Common.{◌≡◌, ◌∷◌, ◌++◌, subst, arith}
use Rattle.std.proofs.lemmas.Grind.{common_steps}
use Rattle.px_merge.specs.Finders.{AreOnce, KeepsPlaces, parted_places}
use Rattle.px_merge.proofs.FinderLemmas.{keeps_step, once_step}
use Rattle.px_merge.proofs.parts.PlaceParts.new.Goals as goal

pub places-preserved : goal.places-preserved
places-preserved c =
    let all = c.args.places.now in
    let old = parted_places c.places.parts in
    let place = c.in-Some.place.now in
    let others = c.in-Some.others.now in
    let cut : c.places.rest.now ≡ place ∷ others = grind (arith, common_steps) in
    record {
      kept = keeps_step all old (parted_places c.add.new.self) others place (subst (λ rest. KeepsPlaces all (old ++ rest)) cut c.places.invariant.kept) c.in_ok-add.ensures.kept;
      once = once_step all old (parted_places c.add.new.self) others place (subst (λ rest. AreOnce all (old ++ rest)) cut c.places.invariant.once) c.in_ok-add.ensures.once;
      asked = c.in_ok-add.ensures.asked c.places.invariant.asked;
    }
