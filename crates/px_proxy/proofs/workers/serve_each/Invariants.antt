use Rattle.std.specs.Prelude.{IfNone, IfSome}
use Rattle.std.proofs.Common.{◌≡◌, ◌<◌, length}
use Rattle.px_publish.specs.Published.{seen_by}
use Rattle.px_desk.specs.Sessions.{IsNth}
use Rattle.px_proxy.proofs.workers.serve_each.Given as goal

abbrev pub invariant-more : goal.invariant-more
invariant-more g l = record {
  counted : IfSome l.next (λ _. l.worker.mine.out.amount ≡ 1);
  closed : IfNone l.next (l.worker.mine.out.amount ≡ 0);
  told : IfNone l.next (0 < l.worker.mine.told.amount);
  nth : IfSome l.next (λ task. IsNth g.N.Making.made.doors.tells g.N.Making.made.doors.conns task.number task.ends);
  learnt : IfSome l.next (λ task. task.handed < length (seen_by l.worker.reader));
}
