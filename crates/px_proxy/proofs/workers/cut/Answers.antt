use Rattle.std.proofs.Common.{◌≡◌, List, All, Some, arith}
use Rattle.std.proofs.lemmas.List.Elements.{All-pop}
use Rattle.px_publish.specs.Published.{reader_pair}
use Rattle.px_publish.specs.declared.readers.ConfigReader.{ConfigReader}
use Rattle.px_config.specs.declared.configs.Config.{Config}
use Rattle.px_proxy.proofs.workers.cut.Goals as goal

pub invariant_of-worker : goal.invariant_of-worker
invariant_of-worker g c = record {
  pair = (All-pop (λ r. reader_pair r ≡ g.N.Making.made.pair) c.each.readers.items c.pop.new.self.items (Some c.in-Some.reader) c.in-Some.ensures.items c.each.invariant.readers).1;
  lawful = c.requires.lawful;
}

pub each-preserved : goal.each-preserved
each-preserved g c = record {
  count = omega (arith, c.push_reserved.ensures.len, c.in-Some.ensures.cases, c.each.invariant.count);
  room = omega (arith, c.push_reserved.ensures.capacity, c.each.invariant.room);
  one_each = omega (arith, c.in-Some.ensures.cases, c.in-Some-pop.ensures.cases, c.each.invariant.one_each);
  back = omega (arith, c.in-Some-pop.ensures.capacity, c.each.invariant.back);
  parts_out = omega (arith, c.split_off.ensures.parts_left, c.in-Some.ensures.cases, c.each.invariant.parts_out);
  parts_told = omega (arith, c.split_off-in-Some.ensures.parts_left, c.in-Some.ensures.cases, c.each.invariant.parts_told);
  amount_out = omega (arith, c.split_off.ensures.amount_left, c.each.invariant.amount_out);
  amount_told = omega (arith, c.split_off-in-Some.ensures.amount_left, c.each.invariant.amount_told);
  readers = (All-pop (λ r. reader_pair r ≡ g.N.Making.made.pair) c.each.readers.items c.pop.new.self.items (Some c.in-Some.reader) c.in-Some.ensures.items c.each.invariant.readers).0;
}
