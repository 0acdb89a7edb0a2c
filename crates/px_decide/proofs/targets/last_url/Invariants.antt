use Rattle.std.proofs.Common.{◌≡◌, ◌≤◌, None, drop, length}
use Rattle.px_decide.specs.Targets.{last_url}
use Rattle.px_decide.proofs.targets.last_url.Given as goal

abbrev pub invariant-places : goal.invariant-places
invariant-places l = (l.at ≤ length l.text) × (last_url (drop l.at l.text) ≡ None)

abbrev pub decreases-places : goal.decreases-places
decreases-places l = l.at
