use Rattle.std.proofs.Common.{arith}
use Rattle.std.proofs.lemmas.List.Elements.{All-same}
use Rattle.px_kept_files.specs.Stores.{IsKeptAsRead}
use Rattle.px_kept_files.proofs.StoreLemmas.{others_kept}
use Rattle.px_kept_files.proofs.stores.FileStore.note.Goals as goal

pub invariant_of-self : goal.invariant_of-self
invariant_of-self c = record {
  asked_kept = All-same (IsKeptAsRead c.with_whole.result) c.forget.new.files.items _ c.forget.ensures.others
      (others_kept c.args.self.now.readings c.with_whole.result c.args.name.now c.with_whole.ensures.only c.args.self.now.asked.items c.args.self.now.asked_kept);
  waiting_kept = All-same (IsKeptAsRead c.with_whole.result) c.forget-2.new.files.items _ c.forget-2.ensures.others
      (others_kept c.args.self.now.readings c.with_whole.result c.args.name.now c.with_whole.ensures.only c.args.self.now.waiting.items c.args.self.now.waiting_kept);
  few = omega (arith, c.args.self.now.few, c.forget.ensures.fewer, c.forget-2.ensures.fewer);
}
