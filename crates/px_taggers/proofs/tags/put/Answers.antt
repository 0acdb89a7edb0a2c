use Rattle.std.proofs.Common.{◌≡◌, [], ◌∷◌, ◌++◌, get_or, ap, ◌∙◌, subst, inr}
use Rattle.std.proofs.Math.Seq.{get_or-append_seam}
use Rattle.std.proofs.lemmas.Result.{on_err_weaker}
use Rattle.px_actions.specs.Sets.{IsUpdatedByFront}
use Rattle.px_merge.specs.Merging.{tagged_sections, updates_in}
use Rattle.px_taggers.proofs.tags.put.Goals as goal

pub returns-clause-err : goal.returns-clause-err
returns-clause-err c =
    let tags = c.args.tags.now in
    let shown = c.index-as_slice-at.result in
    let is_tag : c.as_bytes.result.now ≡ c.args.tag =
    c.as_bytes.ensures
    ∙ c.index-as_slice-at.is
    ∙ ap (λ ts. get_or ts c.len-at.result shown) (c.as_slice.ensures ∙ c.in_ok-add.ensures.ok)
    ∙ ap (λ n. get_or (tags ++ c.args.tag ∷ []) n shown) c.len-at.ensures
    ∙ get_or-append_seam tags c.args.tag [] shown in
    on_err_weaker c.apply_tag.result (λ had.
    inr (c.in_ok-add.ensures.ok, subst (λ tag. IsUpdatedByFront c.args.set.now (updates_in (tagged_sections c.args.sections.now.sections tag)) c.apply_tag.new.set) is_tag had))
    c.apply_tag.ensures.err
