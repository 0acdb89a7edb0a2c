use Rattle.std.proofs.Common.{refl, inr, subst}
use Rattle.std.proofs.lemmas.Result.{on_err_weaker}
use Rattle.px_actions.specs.Sets.{IsUpdatedByFront}
use Rattle.px_merge.specs.Merged.{Merged}
use Rattle.px_merge.specs.Merging.{absent, updates_in}
use Rattle.px_taggers.specs.Fronts.{IsWithinAbsent}
use Rattle.px_taggers.specs.Tagging.{rules, state}
use Rattle.px_taggers.proofs.lines.tag_headers_with.Goals as goal

pub returns-clause-err : goal.returns-clause-err
returns-clause-err c =
    let side = c.args.headers.now.side in
    let all = rules c.args.sections.now.sections c.args.filters.now side c.args.headers.now.vars.now in
    let set = c.tag_lines.new.set in
    let tags = c.tag_lines.new.tags in
    let new = c.apply_absent.new.set in
    on_err_weaker c.apply_absent.result (λ had.
    inr (subst (λ u. IsWithinAbsent all u (state new tags)) c.in_ok-tag_lines.ensures.done
    (record {
      tags = refl;
      updates = subst (λ (m : Merged). IsUpdatedByFront set (updates_in (absent m.sections tags side)) new) c.in_ok-tag_lines.ensures.sections
          (subst (λ ts. IsUpdatedByFront set (updates_in (absent c.tag_lines.new.sections.sections ts side)) new) c.as_slice.ensures had);
    })))
    c.apply_absent.ensures.err
