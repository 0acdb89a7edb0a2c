use Rattle.std.proofs.Common.{◌≡◌, ◌+◌, length}
use Rattle.std.specs.List.{position_or_len}
use Rattle.px_action_files.specs.Files.{is_heading}
use Rattle.px_action_files.proofs.files.body_length.Given as goal

abbrev pub invariant-lines : goal.invariant-lines
invariant-lines l = record {
  same : l.len + position_or_len is_heading l.rest ≡ position_or_len is_heading l.lines;
  place : l.len + length l.rest ≡ length l.lines;
}

abbrev pub decreases-lines : goal.decreases-lines
decreases-lines l = length l.rest
