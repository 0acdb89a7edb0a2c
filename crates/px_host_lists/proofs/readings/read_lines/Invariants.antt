use Rattle.std.proofs.Common.{◌≡◌, ◌+◌, ◌≤◌, ◌++◌, length}
use Rattle.std.specs.Prelude.{◌==◌, slice_get}
use Rattle.std.specs.List.{slice_split}
use Rattle.std.specs.Option.{option_or}
use Rattle.px_host_lists.specs.Readings.{entries_from, list_entries, passed_from, passed_lines}
use Rattle.px_host_lists.specs.Slots.{IsGathered, gathered_entries}
use Rattle.px_host_lists.proofs.readings.read_lines.Given as goal

abbrev pub invariant-lines : goal.invariant-lines
invariant-lines l = record {
  gathered : IsGathered l.hosts;
  entries : list_entries l.text ≡ gathered_entries l.hosts ++ entries_from (l.number + 1) (slice_split (λ b. b == 10) l.rest);
  count : length (passed_lines l.text) ≡ l.passed.count + length (passed_from (l.number + 1) (slice_split (λ b. b == 10) l.rest));
  first : slice_get (passed_lines l.text) 0 ≡ option_or l.passed.first (slice_get (passed_from (l.number + 1) (slice_split (λ b. b == 10) l.rest)) 0);
  place : l.number + length l.rest ≤ 67108864;
  passed : l.passed.count ≤ l.number;
}

abbrev pub decreases-lines : goal.decreases-lines
decreases-lines l = length l.rest
