use Rattle.std.proofs.Common.{◌≡◌, ◌++◌, length}
use Rattle.px_merge.specs.Merging.{sections_with}
use Rattle.px_merge.specs.Selections.{is_for_test, picked}
use Rattle.px_merge.proofs.tag_walks.tag_hits.Given as goal

abbrev pub invariant-numbers : goal.invariant-numbers
invariant-numbers l = record {
  sections : l.matchers ≡ l.initial.matchers;
  hits : picked l.initial.matchers l.hits.items ++ sections_with (is_for_test l.test) (picked l.initial.matchers l.rest)
      ≡ sections_with (is_for_test l.test) (picked l.initial.matchers l.numbers);
}

abbrev pub decreases-numbers : goal.decreases-numbers
decreases-numbers l = length l.rest
