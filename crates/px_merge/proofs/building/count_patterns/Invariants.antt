use Rattle.std.proofs.Common.{◌≡◌, ◌+◌, length}
use Rattle.px_merge.specs.Merged.{pattern_count}
use Rattle.px_merge.proofs.building.count_patterns.Given as goal

abbrev pub invariant-sections : goal.invariant-sections
invariant-sections l = l.count + pattern_count l.rest ≡ pattern_count l.sections

abbrev pub decreases-sections : goal.decreases-sections
decreases-sections l = length l.rest
