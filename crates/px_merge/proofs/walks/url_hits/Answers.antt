use Rattle.std.proofs.Common.{◌≡◌, ℕ, ◌++◌, Bool, true, map, length, ap, ◌∙◌, subst, sym, arith}
use Rattle.std.specs.List.{flat_map, list_any}
use Rattle.px_merge.specs.Finders.{AreAsked, with_places}
use Rattle.px_merge.specs.Indexes.{cost_at, hits_in, host_keys, slot_at, weight}
use Rattle.px_merge.specs.Keys.{slot_number}
use Rattle.px_merge.specs.Merging.{is_for_url}
use Rattle.px_merge.proofs.WalkLemmas.{hits_select, steps_within}
use Rattle.px_merge.proofs.walks.url_hits.Goals as goal

pub try_every-requires : goal.try_every-requires
try_every-requires g c = subst (λ texts. AreAsked c.args.matchers.now texts c.args.finder.now.paths) (sym c.requires.union) c.requires.finder.asked

pub returns-in_err-try_every-clause-steps : goal.returns-in_err-try_every-clause-steps
returns-in_err-try_every-clause-steps g c =
    let index = with_places c.args.finder.now.index c.args.finder.now.paths in
    omega (
      arith,
      c.in_err-try_every.ensures.steps,
      steps_within index c.args.matchers.now c.args.test.now.url.now.host c.in_ok-numbers.numbers.items c.requires.finder.indexed c.in_ok-numbers.ensures.rises,
    )

pub returns-in_err-try_slots-clause-steps : goal.returns-in_err-try_slots-clause-steps
returns-in_err-try_slots-clause-steps g c =
    let costs = cost_at c.args.matchers.now c.args.test.now.url.now.host in
    let index = with_places c.args.finder.now.index c.args.finder.now.paths in
    omega (
      arith,
      c.in_ok-try_every.ensures.steps,
      c.in_err-try_slots.ensures.steps,
      ap (λ sections. weight (cost_at sections c.args.test.now.url.now.host) (flat_map (slot_at index.slots.items) c.as_slice.result.now)) c.in_ok-try_every.ensures.same,
      ap (λ ns. weight costs (flat_map (slot_at index.slots.items) ns)) c.as_slice.ensures.value,
      steps_within index c.args.matchers.now c.args.test.now.url.now.host c.in_ok-numbers.numbers.items c.requires.finder.indexed c.in_ok-numbers.ensures.rises,
    )

pub returns-clause-steps : goal.returns-clause-steps
returns-clause-steps g c =
    let costs = cost_at c.args.matchers.now c.args.test.now.url.now.host in
    let index = with_places c.args.finder.now.index c.args.finder.now.paths in
    omega (
      arith,
      c.in_ok-try_every.ensures.steps,
      c.in_ok-try_slots.ensures.steps,
      ap (λ sections. weight (cost_at sections c.args.test.now.url.now.host) (flat_map (slot_at index.slots.items) c.as_slice.result.now)) c.in_ok-try_every.ensures.same,
      ap (λ ns. weight costs (flat_map (slot_at index.slots.items) ns)) c.as_slice.ensures.value,
      steps_within index c.args.matchers.now c.args.test.now.url.now.host c.in_ok-numbers.numbers.items c.requires.finder.indexed c.in_ok-numbers.ensures.rises,
    )

pub returns-clause-selects : goal.returns-clause-selects
returns-clause-selects g c =
    let index = with_places c.args.finder.now.index c.args.finder.now.paths in
    let sections = c.args.matchers.now in
    let url = c.args.test.now.url.now in
    let tags = c.args.test.now.tags.now in
    let hits = hits_in sections (is_for_url url tags) in
    let slots = index.slots.items in
    let numbers = c.in_ok-numbers.numbers.items in
    let count : c.len.result ≡ length slots = c.len.ensures ∙ index.slots.ok.0 in
    let keeps : (test : ℕ → Bool) → list_any test (map (slot_number (length slots)) (host_keys url.host)) ≡ true → list_any test numbers ≡ true =
    λ test. subst (λ host. list_any test (map (slot_number (length slots)) (host_keys host)) ≡ true → list_any test numbers ≡ true) c.as_bytes.ensures
    (subst (λ n. list_any test (map (slot_number n) (host_keys c.as_bytes.result.now)) ≡ true → list_any test numbers ≡ true) count (c.in_ok-numbers.ensures.keeps test)) in
    let raw : c.try_slots.new.hits.items ≡ hits index.always ++ hits (flat_map (slot_at slots) numbers) =
    c.in_ok-try_slots.ensures.hits
    ∙ ap (λ sections. c.try_every.new.hits.items ++ hits_in sections (is_for_url url tags) (flat_map (slot_at slots) c.as_slice.result.now)) c.in_ok-try_every.ensures.same
    ∙ ap (λ front. front ++ hits (flat_map (slot_at slots) c.as_slice.result.now))
    (c.in_ok-try_every.ensures.hits ∙ ap (λ front. front ++ hits index.always) c.new-hits.ensures.items)
    ∙ ap (λ ns. hits index.always ++ hits (flat_map (slot_at slots) ns)) c.as_slice.ensures.value in
    hits_select index sections url tags numbers c.try_slots.new.hits.items c.put_in_order.new.numbers.items c.requires.finder.indexed keeps raw
    c.put_in_order.ensures.rises c.put_in_order.ensures.keeps c.put_in_order.ensures.adds_none
