use Rattle.std.proofs.Common.{◌≡◌, ◌<◌, length}
use Rattle.px_publish.specs.Published.{reader_pair, seen_by}
use Rattle.px_desk.specs.Sessions.{IsNth}
use Rattle.px_serve.specs.Keeping.{IsStored}
use Rattle.px_proxy.proofs.workers.serve_while_stored.Given as goal

abbrev pub invariant-same : goal.invariant-same
invariant-same g l = record {
  one : l.mine.out.amount ≡ 1;
  pair : reader_pair l.reader ≡ g.N.Making.made.pair;
  stored : IsStored (seen_by l.reader) l.store;
  nth : IsNth g.N.Making.made.doors.tells g.N.Making.made.doors.conns l.task.number l.task.ends;
  learnt : l.task.handed < length (seen_by l.reader);
}
