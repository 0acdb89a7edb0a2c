use Rattle.std.proofs.Common.{◌≡◌, Some, All, vec_len}
use Rattle.left_right.specs.Sides.{view}
use Rattle.px_publish.proofs.writers.readers.Given as goal

abbrev pub invariant-loop : goal.invariant-loop
invariant-loop g l = record {
  told : view l.writer.desk.place ≡ Some l.entry.front.seen;
  shown : l.writer.desk.shown ≡ l.fn.writer.desk.shown;
  count : vec_len l.readers ≡ l.counter;
  entries : All (λ r. r.held.front ≡ l.entry.front) l.readers.items;
}
