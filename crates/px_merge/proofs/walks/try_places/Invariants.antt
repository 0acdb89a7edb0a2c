use Rattle.std.proofs.Common.{◌≡◌, ◌+◌, ◌≤◌, ◌++◌, length}
use Rattle.px_merge.specs.Indexes.{cost_at, hits_in, weight}
use Rattle.px_merge.specs.Merging.{is_for_url}
use Rattle.px_merge.proofs.walks.try_places.Given as goal

abbrev pub invariant-places : goal.invariant-places
invariant-places g l = record {
  sections : l.matchers ≡ l.initial.matchers;
  same : l.hits.items ++ hits_in l.initial.matchers (is_for_url l.test.url.now l.test.tags.now) l.rest ≡ l.initial.hits.items ++ hits_in l.initial.matchers (is_for_url l.test.url.now l.test.tags.now) l.places;
  steps : l.steps + weight (cost_at l.initial.matchers l.test.url.now.host) l.rest ≤ l.initial.steps + weight (cost_at l.initial.matchers l.test.url.now.host) l.places;
}

abbrev pub decreases-places : goal.decreases-places
decreases-places g l = length l.rest
