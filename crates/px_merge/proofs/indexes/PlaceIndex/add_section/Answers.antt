use Rattle.std.proofs.Common.{ap, arith}
use Rattle.std.proofs.lemmas.List.{drop_all}
use Rattle.px_merge.specs.Indexes.{patterns_weight}
use Rattle.px_merge.proofs.IndexLemmas.{grows_on, has_more, patterns_step}
use Rattle.px_merge.proofs.indexes.PlaceIndex.add_section.Goals as goal

pub loop-at-init : goal.loop-at-init
loop-at-init c = record {
  grows = λ keys test e. e;
  has = λ j pattern below. absurd (omega (arith, below));
  once = λ weigh. omega arith;
}

pub loop-at-preserved : goal.loop-at-preserved
loop-at-preserved c =
    let shown = c.index-patterns-at.result in
    record {
      grows = grows_on c.args.self.now c.loop-at.self c.add.new.self c.loop-at.invariant.grows c.in_ok-add.ensures.kept;
      has = has_more c.loop-at.self c.add.new.self c.args.number c.args.patterns.now c.loop-at.at shown c.in_ok-add.ensures.kept c.loop-at.invariant.has c.index-patterns-at.is
          c.in_ok-add.ensures.added;
      once = λ weigh. omega (
        arith,
        c.loop-at.invariant.once weigh,
        c.in_ok-add.ensures.once weigh,
        patterns_step weigh c.args.number c.args.patterns.now c.loop-at.at shown (omega arith),
      );
    }

pub returns-clause-once : goal.returns-clause-once
returns-clause-once c = λ weigh.
    omega (
      arith,
      c.loop-at.invariant.once weigh,
      ap (patterns_weight weigh c.args.number c.loop-at.at) (drop_all c.loop-at.at c.args.patterns.now (omega arith)),
    )
