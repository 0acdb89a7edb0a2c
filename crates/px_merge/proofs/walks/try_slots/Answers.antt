use Rattle.std.proofs.Common.{◌≡◌, ◌∷◌, ◌++◌, ◌∙◌, ap, arith}
use Rattle.std.specs.List.{flat_map}
use Rattle.std.proofs.lemmas.Grind.{common_steps}
use Rattle.px_merge.specs.Indexes.{cost_at, hits_in, slot_at, weight}
use Rattle.px_merge.specs.Merging.{is_for_url}
use Rattle.px_merge.proofs.WalkLemmas.{slots_hits, slots_weights}
use Rattle.px_merge.proofs.walks.try_slots.Goals as goal

pub numbers-preserved : goal.numbers-preserved
numbers-preserved g c =
    let sections = c.args.matchers.now in
    let test = is_for_url c.args.test.now.url.now c.args.test.now.tags.now in
    let slots = c.args.index.now.slots.items in
    let cut : c.numbers.rest.now ≡ c.in-Some.number.now ∷ c.in-Some.others.now = grind (arith, common_steps) in
    record {
      sections = c.in_ok-try_places.ensures.same ∙ c.numbers.invariant.sections;
      same = slots_hits sections test slots c.numbers.hits.items c.try_places.new.hits.items
          (c.args.hits.now.items ++ hits_in sections test (flat_map (slot_at slots) c.args.numbers.now))
          c.numbers.rest.now c.in-Some.number.now c.in-Some.others.now c.slot.result.now cut c.slot.ensures
          (c.in_ok-try_places.ensures.hits ∙ ap (λ sections. c.numbers.hits.items ++ hits_in sections test c.slot.result.now) c.numbers.invariant.sections)
          c.numbers.invariant.same;
      steps = omega (
        arith,
        c.numbers.invariant.steps,
        c.in_ok-try_places.ensures.steps,
        ap (λ sections. weight (cost_at sections c.args.test.now.url.now.host) c.slot.result.now) c.numbers.invariant.sections,
        slots_weights (cost_at sections c.args.test.now.url.now.host) slots c.numbers.rest.now c.in-Some.number.now c.in-Some.others.now c.slot.result.now cut c.slot.ensures,
      );
    }

pub returns-in_err-try_places-clause-steps : goal.returns-in_err-try_places-clause-steps
returns-in_err-try_places-clause-steps g c =
    let slots = c.args.index.now.slots.items in
    let cut : c.numbers.rest.now ≡ c.in-Some.number.now ∷ c.in-Some.others.now = grind (arith, common_steps) in
    omega (
      arith,
      c.numbers.invariant.steps,
      c.in_err-try_places.ensures.steps,
      ap (λ sections. weight (cost_at sections c.args.test.now.url.now.host) c.slot.result.now) c.numbers.invariant.sections,
      slots_weights (cost_at c.args.matchers.now c.args.test.now.url.now.host) slots c.numbers.rest.now c.in-Some.number.now c.in-Some.others.now c.slot.result.now cut c.slot.ensures,
    )
