use Rattle.std.proofs.Common.{◌≡◌, arith}
use Rattle.px_exercise.proofs.RunLemmas.{are_runs_of}
use Rattle.px_exercise.proofs.runs.run_all.Goals as goal

pub sessions-preserved : goal.sessions-preserved
sessions-preserved g c =
    let next = c.in_ok-run_next.ensures in
    record {
      so_far = λ number is. next.next c.args.config number c.sessions.counter (c.sessions.invariant.so_far number is);
      room = omega (arith, next.within, c.sessions.invariant.room);
    }

pub returns : goal.returns
returns g c = record {
  runs = λ number is.
      let ten : c.sessions.counter ≡ 10 = omega arith in
      are_runs_of (c.sessions.invariant.so_far number is) ten (c.sessions_in_order.ensures.all number);
}
