use Rattle.std.proofs.Common.{arith}
use Rattle.px_pumps.proofs.HeadLemmas.{nothing_searched}
use Rattle.px_pumps.proofs.pumps.Pump.new.Goals as goal

pub invariant_of-result : goal.invariant_of-result
invariant_of-result c =
    let none = nothing_searched c.new.result c.new-2.result c.new.ensures c.new-2.ensures in
    (omega arith, none.0, none.1)
