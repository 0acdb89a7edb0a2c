use Rattle.std.proofs.Common.{◌∙◌, ap, length, rules, arith, length-append}
use Rattle.std.proofs.lemmas.List.{length-map}
use Rattle.px_host_lists.specs.Slots.{gathered_entries, slot_entry}
use Rattle.px_host_lists.proofs.ReadingLemmas.{refused-here}
use Rattle.px_host_lists.proofs.SlotLemmas.{pushed_entries, pushed_slots}
use Rattle.px_host_lists.proofs.gathering.Gathered.push.Goals as goal

pub returns-then-len-eq-HOST_LIMIT-clause-refused : goal.returns-then-len-eq-HOST_LIMIT-clause-refused
returns-then-len-eq-HOST_LIMIT-clause-refused c =
    refused-here (gathered_entries c.args.self.now) (record { line = c.args.number; host = c.args.host.now }) (length-map c.args.self.now.slots.items (slot_entry c.args.self.now.text.items) ∙ (search rules))

pub returns-clause-gathered : goal.returns-clause-gathered
returns-clause-gathered c =
    record {
      slots = pushed_slots _ c.args.host.now _ _ _ _ c.in_ok-extend_from_slice.ensures.items c.in_ok-push.ensures.items (search rules) (search rules) c.hash_of.ensures c.requires.gathered.slots;
      hosts = omega (arith, ap length c.in_ok-push.ensures.items, length-append c.args.self.now.slots.items, c.requires.gathered.hosts);
      bytes = omega (arith, ap length c.in_ok-push.ensures.items, ap length c.in_ok-extend_from_slice.ensures.items, length-append c.args.self.now.slots.items, length-append c.args.self.now.text.items, c.requires.gathered.bytes);
    }

pub returns-clause-added : goal.returns-clause-added
returns-clause-added c =
    pushed_entries _ c.args.host.now _ _ _ _ c.in_ok-extend_from_slice.ensures.items c.in_ok-push.ensures.items (search rules) (search rules) c.requires.gathered.slots
