use Rattle.std.proofs.Common.{◌≡◌, length}
use Rattle.px_host_lists.specs.Hosts.{first_listed}
use Rattle.px_host_lists.proofs.lists.HostList.find_name.Given as goal

abbrev pub invariant-labels : goal.invariant-labels
invariant-labels l = first_listed l.self l.host ≡ first_listed l.self l.rest

abbrev pub decreases-labels : goal.decreases-labels
decreases-labels l = length l.rest
