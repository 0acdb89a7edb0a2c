use Rattle.std.proofs.Common.{ap, subst, sym, arith}
use Rattle.px_merge.specs.Finders.{AreAsked}
use Rattle.px_merge.specs.Indexes.{cost_at, weight}
use Rattle.px_merge.proofs.SlotLemmas.{weight_append}
use Rattle.px_merge.proofs.walks.try_every.Goals as goal

pub returns-in_err-try_places-clause-steps : goal.returns-in_err-try_places-clause-steps
returns-in_err-try_places-clause-steps g c =
    let costs = cost_at c.args.matchers.now c.args.test.now.url.now.host in
    omega (
      arith,
      c.in_err-try_places.ensures.steps,
      ap (weight costs) c.as_slice-always.ensures,
      weight_append costs c.args.finder.now.index.always c.args.finder.now.paths,
    )

pub try_paths-requires : goal.try_paths-requires
try_paths-requires g c =
    subst (λ sections. AreAsked sections c.args.union.now c.as_slice-paths.result.now) (sym c.in_ok-try_places.ensures.same)
    (subst (AreAsked c.args.matchers.now c.args.union.now) (sym c.as_slice-paths.ensures) c.requires)

pub returns-in_err-try_paths-clause-steps : goal.returns-in_err-try_paths-clause-steps
returns-in_err-try_paths-clause-steps g c =
    let costs = cost_at c.args.matchers.now c.args.test.now.url.now.host in
    omega (
      arith,
      c.in_ok-try_places.ensures.steps,
      c.in_err-try_paths.ensures.steps,
      ap (λ sections. weight (cost_at sections c.args.test.now.url.now.host) c.as_slice-paths.result.now) c.in_ok-try_places.ensures.same,
      ap (weight costs) c.as_slice-always.ensures,
      ap (weight costs) c.as_slice-paths.ensures,
      weight_append costs c.args.finder.now.index.always c.args.finder.now.paths,
    )

pub returns-clause-steps : goal.returns-clause-steps
returns-clause-steps g c =
    let costs = cost_at c.args.matchers.now c.args.test.now.url.now.host in
    omega (
      arith,
      c.in_ok-try_places.ensures.steps,
      c.in_ok-try_paths.ensures.steps,
      ap (λ sections. weight (cost_at sections c.args.test.now.url.now.host) c.as_slice-paths.result.now) c.in_ok-try_places.ensures.same,
      ap (weight costs) c.as_slice-always.ensures,
      ap (weight costs) c.as_slice-paths.ensures,
      weight_append costs c.args.finder.now.index.always c.args.finder.now.paths,
    )
