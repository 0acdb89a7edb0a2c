use Rattle.std.proofs.Common.{◌≡◌, ◌++◌, [], take, drop}
use Rattle.px_filter_files.specs.Headings.{Key}
use Rattle.px_filter_files.specs.Seen.{has_seen}
use Rattle.px_filter_files.specs.FilterFiles.{all_skipped, begins_part, filters_in, first_filter_fault, is_among_keys}
use Rattle.px_filter_files.proofs.files.FilterFile.read.Given as goal

abbrev pub invariant-loop-at : goal.invariant-loop-at
invariant-loop-at l = record {
  begun : l.begun ≡ begins_part (take l.at l.lines);
  seen : (key : Key) → has_seen l.seen key ≡ is_among_keys (take l.at l.lines) key;
  fault : first_filter_fault [] l.lines ≡ first_filter_fault (take l.at l.lines) (drop l.at l.lines);
  filters : l.filters ++ filters_in (drop l.at l.lines) ≡ filters_in l.lines;
  skipped : l.skipped ++ all_skipped (drop l.at l.lines) ≡ all_skipped l.lines;
}
