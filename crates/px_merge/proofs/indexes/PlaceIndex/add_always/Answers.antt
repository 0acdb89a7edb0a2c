use Rattle.std.proofs.Common.{ap, arith}
use Rattle.px_merge.specs.Indexes.{weight}
use Rattle.px_merge.proofs.SlotLemmas.{weight_push}
use Rattle.px_merge.proofs.indexes.PlaceIndex.add_always.Goals as goal

pub returns-in-Ok-clause-once : goal.returns-in-Ok-clause-once
returns-in-Ok-clause-once c = λ weigh. omega (arith, ap (weight weigh) c.in-Ok.ensures.ok, weight_push weigh c.args.self.now.always c.args.place)
