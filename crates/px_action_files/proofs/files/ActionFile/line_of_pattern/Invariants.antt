use Rattle.std.proofs.Common.{◌≡◌, length, []}
use Rattle.std.specs.Prelude.{slice_get}
use Rattle.px_action_files.specs.Files.{cut}
use Rattle.px_action_files.specs.PatternLines.{pattern_lines}
use Rattle.px_action_files.proofs.files.ActionFile.line_of_pattern.Given as goal

abbrev pub invariant-headings : goal.invariant-headings
invariant-headings l = record {
  same : slice_get (pattern_lines l.rest) l.left ≡ slice_get (pattern_lines l.lines) l.n;
  begins : (cut l.rest).front ≡ [];
}

abbrev pub decreases-headings : goal.decreases-headings
decreases-headings l = length l.rest
