use Rattle.std.proofs.Common.{◌≡◌}
use Rattle.px_tag_board.proofs.boards.history_length.Given as goal

abbrev pub invariant-again : goal.invariant-again
invariant-again g l = (l.all.parts ≡ l.initial.all.parts) × (l.all.amount ≡ l.initial.all.amount)
