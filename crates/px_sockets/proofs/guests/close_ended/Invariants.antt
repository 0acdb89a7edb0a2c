use Rattle.std.proofs.Common.{◌≡◌, length, ◌-◌}
use Rattle.px_sockets.specs.Guests.{in_use}
use Rattle.px_sockets.proofs.guests.close_ended.Given as goal

abbrev pub invariant-loop-at : goal.invariant-loop-at
invariant-loop-at l = in_use l.all.items ≡ in_use l.initial.all.items

abbrev pub decreases-loop-at : goal.decreases-loop-at
decreases-loop-at l = length l.all.items - l.at
