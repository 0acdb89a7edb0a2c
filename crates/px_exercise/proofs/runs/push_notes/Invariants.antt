-- The notes so far.
use Rattle.std.proofs.Common.{◌≡◌, ◌++◌, take}
use Rattle.px_exercise.proofs.runs.push_notes.Given as goal

abbrev pub invariant-notes : goal.invariant-notes
invariant-notes l = l.notes ≡ l.fn.notes ++ take l.note-index l.more
