use Rattle.std.proofs.Common.{◌≡◌, [], ◌∷◌, ◌++◌, ◌∙◌, arith}
use Rattle.std.specs.Prelude.{option_copied}
use Rattle.std.proofs.lemmas.Grind.{common_steps}
use Rattle.px_merge.specs.Keys.{slot_number}
use Rattle.px_merge.proofs.HostLemmas.{labels_step}
use Rattle.px_merge.proofs.hosts.add_labels.Goals as goal

pub labels-preserved : goal.labels-preserved
labels-preserved c =
    let pushed : c.push.new.self.items ≡ c.labels.numbers.items ++ slot_number c.args.count c.cut.result.0.now ∷ [] = grind (arith, common_steps) in
    labels_step c.args.count c.labels.numbers.items c.push.new.self.items c.in-Some.bytes.now c.cut.result.0.now (option_copied c.cut.result.1) c.cut.ensures.parts pushed
    ∙ rw c.in-Some.is at c.labels.invariant
