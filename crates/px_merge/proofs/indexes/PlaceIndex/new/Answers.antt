use Rattle.std.proofs.Common.{◌≡◌, ap, arith, length, subst}
use Rattle.std.proofs.lemmas.List.{drop_all}
use Rattle.px_merge.specs.Indexes.{HasFirstPatterns, HasSections, patterns_weight, sections_weight}
use Rattle.px_merge.proofs.IndexLemmas.{sections_more, sections_step}
use Rattle.px_merge.proofs.indexes.PlaceIndex.new.Goals as goal

pub loop-at-init : goal.loop-at-init
loop-at-init c = record {
  has = λ i section below. absurd (omega (arith, below));
  once = λ weigh. omega (arith, c.in_ok-index.ensures weigh);
}

pub loop-at-preserved : goal.loop-at-preserved
loop-at-preserved c =
    let shown = c.index-sections-at.result in
    record {
      has = sections_more c.loop-at.index c.add_section.new.self c.args.sections.now c.loop-at.at shown c.in_ok-add_section.ensures.kept c.loop-at.invariant.has c.index-sections-at.is
          (subst (λ ps. HasFirstPatterns c.add_section.new.self c.loop-at.at ps (length ps)) c.as_slice.ensures c.in_ok-add_section.ensures.added);
      once = λ weigh. omega (
        arith,
        c.loop-at.invariant.once weigh,
        c.in_ok-add_section.ensures.once weigh,
        ap (patterns_weight weigh c.loop-at.at 0) c.as_slice.ensures,
        sections_step weigh c.args.sections.now c.loop-at.at shown (omega arith) c.index-sections-at.is,
      );
    }

pub returns : goal.returns
returns c =
    let end : c.loop-at.at ≡ length c.args.sections.now = omega arith in
    record {
      has = subst (HasSections c.loop-at.index c.args.sections.now) end c.loop-at.invariant.has;
      once = λ weigh. omega (
        arith,
        c.loop-at.invariant.once weigh,
        ap (sections_weight weigh c.loop-at.at) (drop_all c.loop-at.at c.args.sections.now (omega arith)),
      );
    }
