use Rattle.std.proofs.Common.{◌≡◌, sym, ap, ◌∙◌, subst}
use Rattle.std.proofs.lemmas.Result.{on_err_weaker, on_ok_weaker}
use Rattle.px_actions.specs.Sets.{IsUpdatedByFront}
use Rattle.px_merge.specs.Merged.{Merged}
use Rattle.px_merge.specs.Merging.{applied, is_for_tag, sections_with, tagged_sections, updates_in}
use Rattle.px_merge.specs.Selections.{picked}
use Rattle.px_merge.proofs.MergedLemmas.{tagged_of}
use Rattle.px_merge.proofs.warm.WarmSections.apply_tag.Goals as goal

pub returns-clause-ok : goal.returns-clause-ok
returns-clause-ok c =
    let tag = c.args.tag.now in
    let numbers = c.tag_numbers.result.now in
    let same : sections_with (is_for_tag tag) (picked c.args.self.now.sections numbers) ≡ tagged_sections c.args.self.now.sections tag =
    ap (λ (m : Merged). sections_with (is_for_tag tag) (picked m.sections numbers)) (sym c.self.view_is)
    ∙ tagged_of c.self.inside.sections.now.sections numbers tag c.tag_numbers.ensures
    ∙ ap (λ (m : Merged). tagged_sections m.sections tag) c.self.view_is in
    on_ok_weaker c.apply.result (λ e. e ∙ ap (applied c.args.set.now) same) c.apply.ensures.ok

pub returns-clause-err : goal.returns-clause-err
returns-clause-err c =
    let tag = c.args.tag.now in
    let numbers = c.tag_numbers.result.now in
    let same : sections_with (is_for_tag tag) (picked c.args.self.now.sections numbers) ≡ tagged_sections c.args.self.now.sections tag =
    ap (λ (m : Merged). sections_with (is_for_tag tag) (picked m.sections numbers)) (sym c.self.view_is)
    ∙ tagged_of c.self.inside.sections.now.sections numbers tag c.tag_numbers.ensures
    ∙ ap (λ (m : Merged). tagged_sections m.sections tag) c.self.view_is in
    on_err_weaker c.apply.result (λ had. subst (λ sections. IsUpdatedByFront c.args.set.now (updates_in sections) c.apply.new.set) same had) c.apply.ensures.err
