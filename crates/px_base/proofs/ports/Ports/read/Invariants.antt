use Rattle.std.proofs.Common.{◌≡◌}
use Rattle.px_base.specs.Ports.{port_list, port_ranges}
use Rattle.px_base.specs.Cuts.{parts_of}
use Rattle.px_base.proofs.PortLemmas.{behind, left}
use Rattle.std.specs.Prelude.{option_copied}
use Rattle.px_base.proofs.ports.Ports.read.Given as goal

abbrev pub invariant-items : goal.invariant-items
invariant-items l = port_list l.fn.text ≡ behind l.ranges.items (port_ranges (parts_of 44 (option_copied l.rest)))

abbrev pub decreases-items : goal.decreases-items
decreases-items l = left (option_copied l.rest)
