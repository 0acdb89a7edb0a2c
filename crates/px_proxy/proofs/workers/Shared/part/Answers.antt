use Rattle.std.proofs.Common.{arith}
use Rattle.std.proofs.lemmas.List.Edits.{length-remove}
use Rattle.px_proxy.proofs.workers.Shared.part.Goals as goal

pub invariant_of-self-clause-counted : goal.invariant_of-self-clause-counted
invariant_of-self-clause-counted g c =
    let loses = c.part.ensures.parts.loses in
    rw loses.gone (omega (arith, length-remove c.args.self.now.desk.out loses.at loses.below, c.sub.ensures.total, c.args.self.now.counted))
