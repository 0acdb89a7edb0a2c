use Rattle.std.proofs.Common.{◌≡◌, length}
use Rattle.px_host_lists.specs.Hosts.{line_of}
use Rattle.px_host_lists.proofs.SlotLemmas.{RisesFrom}
use Rattle.px_host_lists.specs.Slots.{AreSlots, slot_entries}
use Rattle.px_host_lists.proofs.slots.line_in.Given as goal

abbrev pub invariant-slots : goal.invariant-slots
invariant-slots l = record {
  same : line_of (slot_entries l.text l.slots) l.host ≡ line_of (slot_entries l.text l.rest) l.host;
  fits : AreSlots l.text l.rest;
  rises : RisesFrom l.hash l.rest;
}

abbrev pub decreases-slots : goal.decreases-slots
decreases-slots l = length l.rest
