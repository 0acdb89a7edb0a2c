use Rattle.std.proofs.Common.{◌≡◌, ◌++◌, length}
use Rattle.px_show.specs.Showing.{note_lines}
use Rattle.px_show.proofs.checks.push_notes.Given as goal

abbrev pub invariant-notes : goal.invariant-notes
invariant-notes l = l.initial.out ++ note_lines l.notes ≡ l.out ++ note_lines l.rest

abbrev pub decreases-notes : goal.decreases-notes
decreases-notes l = length l.rest
