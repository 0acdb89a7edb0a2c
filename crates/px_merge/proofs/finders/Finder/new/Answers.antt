use Rattle.std.proofs.Common.{refl, subst, sym}
use Rattle.px_merge.specs.Finders.{AreAsked, AreOnce, KeepsPlaces, parted_places}
use Rattle.px_merge.specs.declared.indexes.PlaceIndex.{PlaceIndex}
use Rattle.px_merge.proofs.FinderLemmas.{parted_index}
use Rattle.px_merge.proofs.finders.Finder.new.Goals as goal

pub returns : goal.returns
returns c =
    let raw = c.in_ok-index.index in
    let parts = c.in_ok-parts.parts in
    let rest : PlaceIndex = record { always = parts.always; slots = raw.slots } in
    record {
      indexed = parted_index raw rest parts.paths c.args.sections.now refl (subst (λ places. KeepsPlaces places (parted_places parts)) c.as_slice.ensures c.in_ok-parts.ensures.kept)
          (subst (λ places. AreOnce places (parted_places parts)) c.as_slice.ensures c.in_ok-parts.ensures.once) c.in_ok-index.ensures;
      asked = subst (λ texts. AreAsked c.args.sections.now texts parts.paths) (sym c.build.ensures) c.in_ok-parts.ensures.asked;
    }
