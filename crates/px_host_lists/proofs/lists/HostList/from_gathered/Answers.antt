use Rattle.std.proofs.lemmas.List.Sorted.{All-permutation}
use Rattle.px_host_lists.specs.Slots.{IsSlot}
use Rattle.px_host_lists.proofs.SlotLemmas.{same_lines}
use Rattle.px_host_lists.proofs.lists.HostList.from_gathered.Goals as goal

pub invariant_of-result : goal.invariant_of-result
invariant_of-result c = (All-permutation (IsSlot c.args.gathered.text.items) _ _ c.in_ok-slots.ensures.permutation c.requires.gathered.slots, c.in_ok-slots.ensures.rising)

pub returns : goal.returns
returns c =
    same_lines c.args.gathered.text.items c.args.gathered.slots.items c.in_ok-slots.slots.items c.requires.gathered.slots
    (All-permutation (IsSlot c.args.gathered.text.items) _ _ c.in_ok-slots.ensures.permutation c.requires.gathered.slots) c.in_ok-slots.ensures.stable
