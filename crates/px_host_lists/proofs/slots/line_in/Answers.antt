use Rattle.std.proofs.Common.{◌≡◌, ◌∙◌, ap, sym, subst, ltb, rules, true, false}
use Rattle.std.specs.List.Sorted.{IsPartitionPoint}
use Rattle.std.specs.Str.{str_eq_ignore_ascii_case}
use Rattle.std.proofs.lemmas.List.Elements.{All-tail}
use Rattle.std.proofs.lemmas.List.Sorted.{IsPartitionPoint-from_clause, IsPartitionedBy-ltb}
use Rattle.px_host_lists.specs.Slots.{AreSlots, IsSlot}
use Rattle.px_host_lists.proofs.SlotLemmas.{RisesFrom, at_rest, begun_fits, begun_rises, begun_same, ended, found_here, not_here, stopped}
use Rattle.px_host_lists.proofs.slots.line_in.Goals as goal

pub slots-init : goal.slots-init
slots-init c =
    let point : IsPartitionPoint (λ s. ltb s.hash c.hash_of-hash.result ≡ true) (λ s. ltb s.hash c.hash_of-hash.result ≡ false) c.args.slots.now c.partition_point-start.result =
    IsPartitionPoint-from_clause (λ s. ltb s.hash c.hash_of-hash.result) _ _ c.partition_point-start.ensures.partitioned (IsPartitionedBy-ltb (λ s. s.hash) _ c.hash_of-hash.result c.requires.rising) (λ a r q k. search rules) in
    record {
      same = begun_same c.args.text.now c.args.slots.now c.args.host.now c.partition_point-start.result c.hash_of-hash.result c.hash_of-hash.ensures c.requires.slots point.0;
      fits = begun_fits c.args.text.now c.args.slots.now c.partition_point-start.result c.requires.slots;
      rises = begun_rises c.args.slots.now c.partition_point-start.result c.hash_of-hash.result c.requires.rising point.1;
    }

pub returns-then-slot-hash : goal.returns-then-slot-hash
returns-then-slot-hash c =
    sym (c.slots.invariant.same ∙ stopped c.args.text.now c.slots.rest.now c.args.host.now c.in-Some.slot.now c.in-Some.more.now c.hash_of-hash.result c.hash_of-hash.ensures c.in-Some.ensures.cases.0
    c.slots.invariant.fits c.slots.invariant.rises c.if-slot-hash.true)

pub returns-then-same_without_case : goal.returns-then-same_without_case
returns-then-same_without_case c =
    sym (c.slots.invariant.same ∙ (at_rest c.args.text.now c.slots.rest.now c.args.host.now c.in-Some.slot.now c.in-Some.more.now c.in-Some.ensures.cases.0
    ∙ found_here c.args.text.now c.in-Some.slot.now c.in-Some.more.now c.args.host.now
    (ap (λ a. str_eq_ignore_ascii_case a c.args.host.now) (sym c.slot_host.ensures) ∙ (sym c.same_without_case.ensures ∙ c.if-same_without_case.true))))

pub slots-preserved : goal.slots-preserved
slots-preserved c =
    record {
      same =
          c.slots.invariant.same ∙ (at_rest c.args.text.now c.slots.rest.now c.args.host.now c.in-Some.slot.now c.in-Some.more.now c.in-Some.ensures.cases.0
          ∙ not_here c.args.text.now c.in-Some.slot.now c.in-Some.more.now c.args.host.now
          (ap (λ a. str_eq_ignore_ascii_case a c.args.host.now) (sym c.slot_host.ensures) ∙ (sym c.same_without_case.ensures ∙ c.if-same_without_case.false)));
      fits = All-tail (IsSlot c.args.text.now) c.in-Some.slot.now c.in-Some.more.now (subst (AreSlots c.args.text.now) c.in-Some.ensures.cases.0 c.slots.invariant.fits);
      rises = subst (λ h. RisesFrom h c.in-Some.more.now) c.if-slot-hash.false ((subst (RisesFrom c.hash_of-hash.result) c.in-Some.ensures.cases.0 c.slots.invariant.rises).1);
    }

pub returns : goal.returns
returns c = sym (c.slots.invariant.same ∙ ended c.args.text.now c.slots.rest.now c.args.host.now c.in_default.ensures.cases)
