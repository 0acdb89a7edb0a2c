use Rattle.std.proofs.Common.{◌≡◌, drop}
use Rattle.px_answers.specs.Framings.{stated_length}
use Rattle.px_answers.proofs.framings.stated_length.Given as goal

abbrev pub invariant-loop-at : goal.invariant-loop-at
invariant-loop-at l = stated_length l.received ≡ stated_length (drop l.at l.received)
