use Rattle.std.proofs.Common.{◌≡◌, ◌≤◌, length, map, take}
use Rattle.px_decide.specs.Lines.{forward_line_of}
use Rattle.px_decide.specs.Routes.{last_line}
use Rattle.px_decide.proofs.routing.last_line.Given as goal

abbrev pub invariant-lines : goal.invariant-lines
invariant-lines g l = (l.at ≤ length l.lines) × (last_line l.url (map forward_line_of l.lines) ≡ last_line l.url (map forward_line_of (take l.at l.lines)))

abbrev pub decreases-lines : goal.decreases-lines
decreases-lines g l = l.at
