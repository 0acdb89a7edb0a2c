use Rattle.std.proofs.Common.{◌≡◌, ◌+◌, ◌≤◌, drop}
use Rattle.px_base.specs.Entries.{finished_in}
use Rattle.px_base.proofs.entries.finished_before.Given as goal

abbrev pub invariant-entries : goal.invariant-entries
invariant-entries l = record {
  counted : finished_in l.before ≡ l.count + finished_in (drop l.entry-index l.before);
  within : l.count ≤ l.entry-index;
}
