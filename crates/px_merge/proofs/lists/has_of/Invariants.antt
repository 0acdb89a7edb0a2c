use Rattle.std.proofs.Common.{◌≡◌, length}
use Rattle.px_merge.specs.Selections.{is_of_purpose}
use Rattle.std.specs.List.{list_any}
use Rattle.px_merge.proofs.lists.has_of.Given as goal

abbrev pub invariant-patterns : goal.invariant-patterns
invariant-patterns l = list_any (is_of_purpose l.purpose) l.rest ≡ list_any (is_of_purpose l.purpose) l.patterns

abbrev pub decreases-patterns : goal.decreases-patterns
decreases-patterns l = length l.rest
