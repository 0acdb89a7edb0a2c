use Rattle.std.proofs.Common.{◌≡◌, ℕ, ◌<◌, false}
use Rattle.px_merge.specs.Indexes.{passes, pattern_at, place_of}
use Rattle.px_merge.specs.Selections.{is_for_test}
use Rattle.px_merge.proofs.tag_walks.has_hit.Given as goal

abbrev pub invariant-loop-pattern : goal.invariant-loop-pattern
invariant-loop-pattern l = record {
  sections : l.matchers ≡ l.initial.matchers;
  none : (j : ℕ) → j < l.pattern → passes (is_for_test l.test) (pattern_at l.initial.matchers (place_of l.section j)) ≡ false;
}
