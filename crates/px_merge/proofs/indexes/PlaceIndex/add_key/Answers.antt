use Rattle.std.proofs.Common.{◌<◌, ◌∙◌, arith}
use Rattle.px_merge.proofs.SlotLemmas.{key_added, key_kept, key_once}
use Rattle.px_merge.proofs.indexes.PlaceIndex.add_key.Goals as goal

pub returns-in-Ok-clause-kept : goal.returns-in-Ok-clause-kept
returns-in-Ok-clause-kept c =
    let below : c.slot_number-at.result < c.len-count.result = omega arith in
    key_kept c.args.self.now.always c.args.self.now.slots.items c.slot_number-at.result c.len-count.result c.index_mut.result.now c.push.new.self c.args.place
    (c.len-count.ensures ∙ c.args.self.now.slots.ok.0) below c.index_mut.ensures.value c.in-Ok.ensures.ok

pub returns-in-Ok-clause-added : goal.returns-in-Ok-clause-added
returns-in-Ok-clause-added c =
    let below : c.slot_number-at.result < c.len-count.result = omega arith in
    key_added c.args.self.now.always c.args.self.now.slots.items c.args.text.now c.slot_number-at.result c.len-count.result c.index_mut.result.now c.push.new.self c.args.place
    (c.len-count.ensures ∙ c.args.self.now.slots.ok.0) below c.slot_number-at.ensures c.in-Ok.ensures.ok

pub returns-in-Ok-clause-once : goal.returns-in-Ok-clause-once
returns-in-Ok-clause-once c = λ weigh.
    let below : c.slot_number-at.result < c.len-count.result = omega arith in
    omega (
      arith,
      key_once weigh c.args.self.now.slots.items c.slot_number-at.result c.len-count.result c.index_mut.result.now c.push.new.self c.args.place
          (c.len-count.ensures ∙ c.args.self.now.slots.ok.0) below c.index_mut.ensures.value c.in-Ok.ensures.ok,
    )
