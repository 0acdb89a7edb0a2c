use Rattle.std.proofs.Common.{ℕ, ◌+◌, ◌≤◌, drop}
use Rattle.px_merge.specs.Indexes.{HasSections, index_weight, sections_weight}
use Rattle.px_merge.specs.declared.places.PatternPlace.{PatternPlace}
use Rattle.px_merge.proofs.indexes.PlaceIndex.new.Given as goal

abbrev pub invariant-loop-at : goal.invariant-loop-at
invariant-loop-at l = record {
  has : HasSections l.index l.sections l.at;
  once : (weigh : PatternPlace → ℕ) → index_weight weigh l.index + sections_weight weigh l.at (drop l.at l.sections) ≤ sections_weight weigh 0 l.sections;
}
