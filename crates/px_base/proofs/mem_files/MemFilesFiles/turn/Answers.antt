use Rattle.std.proofs.Common.{arith, refl}
use Rattle.px_base.proofs.FolderLemmas.{turned_to_next, later_after_next}
use Rattle.px_base.proofs.mem_files.MemFilesFiles.turn.Goals as goal

pub returns-then-self-len-clause-turns : goal.returns-then-self-len-clause-turns
returns-then-self-len-clause-turns c = record {
  turned = λ t u name. rw c.clear.ensures.items (turned_to_next c.args.self.now.states c.args.self.now.at _ (omega arith) name);
  later = λ t. later_after_next c.args.self.now.states c.args.self.now.at (omega arith);
  read_faults_same = refl;
  put_faults_same = refl;
  puts_same = refl;
  reads_same = refl;
  counted = c.saturating_add-self.ensures;
}
