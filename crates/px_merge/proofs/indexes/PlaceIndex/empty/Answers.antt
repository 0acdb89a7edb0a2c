use Rattle.std.proofs.Common.{◌≡◌, [], ◌∷◌, ◌++◌, ap, ◌∙◌, arith}
use Rattle.std.proofs.lemmas.Grind.{common_steps}
use Rattle.px_merge.specs.Indexes.{slots_weight, weight}
use Rattle.px_merge.proofs.SlotLemmas.{slots_push}
use Rattle.px_merge.proofs.indexes.PlaceIndex.empty.Goals as goal

pub slots-preserved : goal.slots-preserved
slots-preserved c =
    let pushed : c.push.new.self.items ≡ c.slots.slots.items ++ c.new-none.result ∷ [] = grind (arith, common_steps) in
    λ weigh. ap (slots_weight weigh) pushed ∙ omega (arith, slots_push weigh c.slots.slots.items c.new-none.result, c.slots.invariant weigh, ap (weight weigh) c.new-none.ensures)

pub returns : goal.returns
returns c = λ weigh. omega (arith, ap (weight weigh) c.new-always.ensures, c.slots.invariant weigh)
