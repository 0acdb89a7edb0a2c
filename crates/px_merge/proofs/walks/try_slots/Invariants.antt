use Rattle.std.proofs.Common.{◌≡◌, ◌+◌, ◌≤◌, ◌++◌, length}
use Rattle.std.specs.List.{flat_map}
use Rattle.px_merge.specs.Indexes.{cost_at, hits_in, slot_at, weight}
use Rattle.px_merge.specs.Merging.{is_for_url}
use Rattle.px_merge.proofs.walks.try_slots.Given as goal

abbrev pub invariant-numbers : goal.invariant-numbers
invariant-numbers g l = record {
  sections : l.matchers ≡ l.initial.matchers;
  same : l.hits.items ++ hits_in l.initial.matchers (is_for_url l.test.url.now l.test.tags.now) (flat_map (slot_at l.index.slots.items) l.rest)
      ≡ l.initial.hits.items ++ hits_in l.initial.matchers (is_for_url l.test.url.now l.test.tags.now) (flat_map (slot_at l.index.slots.items) l.numbers);
  steps : l.steps + weight (cost_at l.initial.matchers l.test.url.now.host) (flat_map (slot_at l.index.slots.items) l.rest)
      ≤ l.initial.steps + weight (cost_at l.initial.matchers l.test.url.now.host) (flat_map (slot_at l.index.slots.items) l.numbers);
}

abbrev pub decreases-numbers : goal.decreases-numbers
decreases-numbers g l = length l.rest
