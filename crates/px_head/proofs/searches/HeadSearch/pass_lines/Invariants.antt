use Rattle.std.proofs.Common.{◌-◌, length}
use Rattle.px_head.specs.Searches.{HasPassed}
use Rattle.px_head.proofs.searches.HeadSearch.pass_lines.Given as goal

abbrev pub invariant-lines : goal.invariant-lines
invariant-lines l = HasPassed l.window l.self

abbrev pub decreases-lines : goal.decreases-lines
decreases-lines l = length l.window - l.self.looked
