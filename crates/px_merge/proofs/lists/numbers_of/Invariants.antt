use Rattle.std.proofs.Common.{◌≡◌, take}
use Rattle.px_merge.specs.Merging.{sections_with}
use Rattle.px_merge.specs.Selections.{is_of_purpose, picked}
use Rattle.px_merge.proofs.lists.numbers_of.Given as goal

abbrev pub invariant-loop-at : goal.invariant-loop-at
invariant-loop-at l = picked l.sections l.numbers.items ≡ sections_with (is_of_purpose l.purpose) (take l.at l.sections)
