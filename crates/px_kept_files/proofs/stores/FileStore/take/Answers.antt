use Rattle.std.proofs.Common.{arith}
use Rattle.px_kept_files.proofs.stores.FileStore.take.Goals as goal

pub invariant_of-self : goal.invariant_of-self
invariant_of-self c = record {
  asked_kept = c.args.self.now.asked_kept;
  waiting_kept = c.take_last.ensures.others _ c.args.self.now.waiting_kept;
  few = omega (arith, c.args.self.now.few, c.take_last.ensures.fewer);
}

pub invariant_of-self-in-None : goal.invariant_of-self-in-None
invariant_of-self-in-None c = record {
  asked_kept = c.take_last-in-None.ensures.others _ c.args.self.now.asked_kept;
  waiting_kept = c.take_last.ensures.others _ c.args.self.now.waiting_kept;
  few = omega (arith, c.args.self.now.few, c.take_last.ensures.fewer, c.take_last-in-None.ensures.fewer);
}

pub returns-in-Some-clause-kept : goal.returns-in-Some-clause-kept
returns-in-Some-clause-kept c = c.in-Some.ensures.taken _ c.args.self.now.waiting_kept
