use Rattle.std.proofs.Common.{◌≡◌, sym, ap, ◌∙◌, subst}
use Rattle.std.proofs.lemmas.Result.{on_err_weaker, on_ok_weaker}
use Rattle.px_actions.specs.Sets.{IsUpdatedByFront}
use Rattle.px_merge.specs.Merged.{Merged}
use Rattle.px_merge.specs.Merging.{absent, applied, is_for_absent, sections_with, updates_in}
use Rattle.px_merge.specs.Selections.{picked}
use Rattle.px_merge.proofs.MergedLemmas.{absent_of}
use Rattle.px_merge.proofs.warm.WarmSections.apply_absent.Goals as goal

pub returns-clause-ok : goal.returns-clause-ok
returns-clause-ok c =
    let tags = c.args.tags.now in
    let numbers = c.absence_numbers-numbers.result.now in
    let same : sections_with (is_for_absent c.args.side tags) (picked c.args.self.now.sections numbers) ≡ absent c.args.self.now.sections tags c.args.side =
    ap (λ (m : Merged). sections_with (is_for_absent c.args.side tags) (picked m.sections numbers)) (sym c.self.view_is)
    ∙ absent_of c.self.inside.sections.now.sections numbers tags c.args.side c.absence_numbers-numbers.ensures
    ∙ ap (λ (m : Merged). absent m.sections tags c.args.side) c.self.view_is in
    on_ok_weaker c.apply.result (λ e. e ∙ ap (applied c.args.set.now) same) c.apply.ensures.ok

pub returns-clause-err : goal.returns-clause-err
returns-clause-err c =
    let tags = c.args.tags.now in
    let numbers = c.absence_numbers-numbers.result.now in
    let same : sections_with (is_for_absent c.args.side tags) (picked c.args.self.now.sections numbers) ≡ absent c.args.self.now.sections tags c.args.side =
    ap (λ (m : Merged). sections_with (is_for_absent c.args.side tags) (picked m.sections numbers)) (sym c.self.view_is)
    ∙ absent_of c.self.inside.sections.now.sections numbers tags c.args.side c.absence_numbers-numbers.ensures
    ∙ ap (λ (m : Merged). absent m.sections tags c.args.side) c.self.view_is in
    on_err_weaker c.apply.result (λ had. subst (λ sections. IsUpdatedByFront c.args.set.now (updates_in sections) c.apply.new.set) same had) c.apply.ensures.err
