use Rattle.std.proofs.Common.{◌≡◌, take}
use Rattle.px_headers.specs.HeldBack.{connection_words}
use Rattle.px_headers.proofs.held_back.HeldBack.of.Given as goal

abbrev pub invariant-loop-field : goal.invariant-loop-field
invariant-loop-field l = l.words ≡ connection_words (take l.field-index l.fields)
