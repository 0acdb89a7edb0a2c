use Rattle.std.proofs.Common.{◌≡◌, length, []}
use Rattle.px_action_files.specs.Files.{cut, after_blocks, nothing_given}
use Rattle.px_action_files.specs.Readings.{seen_reading}
use Rattle.px_action_files.proofs.files.ActionFile.read.Given as goal

abbrev pub invariant-headings : goal.invariant-headings
invariant-headings l = record {
  same : after_blocks (cut l.rest).blocks (seen_reading l.reading) ≡ after_blocks (cut l.lines).blocks nothing_given;
  begins : (cut l.rest).front ≡ [];
}

abbrev pub decreases-headings : goal.decreases-headings
decreases-headings l = length l.rest
