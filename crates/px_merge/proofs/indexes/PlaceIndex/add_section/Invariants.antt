use Rattle.std.proofs.Common.{ℕ, ◌+◌, ◌≤◌, drop}
use Rattle.px_merge.specs.Indexes.{Grows, HasFirstPatterns, index_weight, patterns_weight}
use Rattle.px_merge.specs.declared.places.PatternPlace.{PatternPlace}
use Rattle.px_merge.proofs.indexes.PlaceIndex.add_section.Given as goal

abbrev pub invariant-loop-at : goal.invariant-loop-at
invariant-loop-at l = record {
  grows : Grows l.initial.self l.self;
  has : HasFirstPatterns l.self l.number l.patterns l.at;
  once : (weigh : PatternPlace → ℕ) → index_weight weigh l.self + patterns_weight weigh l.number l.at (drop l.at l.patterns)
      ≤ index_weight weigh l.initial.self + patterns_weight weigh l.number 0 l.patterns;
}
