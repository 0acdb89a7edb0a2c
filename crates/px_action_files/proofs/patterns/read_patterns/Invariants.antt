use Rattle.std.proofs.Common.{◌≡◌, length, []}
use Rattle.px_action_files.specs.Patterns.{patterns_of}
use Rattle.px_action_files.proofs.patterns.read_patterns.Given as goal

abbrev pub invariant-lines : goal.invariant-lines
invariant-lines l = patterns_of l.rest l.patterns ≡ patterns_of l.lines []

abbrev pub decreases-lines : goal.decreases-lines
decreases-lines l = length l.rest
