use Rattle.std.proofs.Common.{◌<◌, map, length, sym, ap, ◌∙◌, subst}
use Rattle.std.specs.List.{All}
use Rattle.std.proofs.lemmas.Result.{IfOk-weaker}
use Rattle.px_merge.specs.Merged.{Merged}
use Rattle.px_merge.specs.Merging.{is_for_url, ref_of}
use Rattle.px_merge.specs.Selections.{Selects, picked}
use Rattle.px_merge.specs.declared.places.SectionRef.{SectionRef}
use Rattle.px_merge.proofs.MergedLemmas.{refs_within}
use Rattle.px_merge.proofs.warm.WarmSections.matched.Goals as goal

pub returns-clause-files : goal.returns-clause-files
returns-clause-files g c =
    let test = is_for_url c.args.url.now c.args.tags.now in
    let lent = c.self.inside.sections.now in
    let sections = c.placed.result.now in
    let hits = c.in_ok-hits.hits.items in
    IfOk-weaker c.refs_of.result _ _ (λ refs e.
    subst (λ (m : Merged). All (λ (r : SectionRef). r.file < length m.names) refs) (c.self.view_is ∙ c.in_ok-hits.ensures.same)
    (refs_within test (length lent.names) sections hits refs
    (subst (λ s. Selects test s hits) (ap (λ (m : Merged). m.sections) (sym (c.self.view_is ∙ c.in_ok-hits.ensures.same)) ∙ sym c.placed.ensures.sections) c.in_ok-hits.ensures.selects)
    c.placed.ensures.files
    (e ∙ ap (λ h. map ref_of (picked sections h)) c.as_slice.ensures.value)))
    c.refs_of.ensures
