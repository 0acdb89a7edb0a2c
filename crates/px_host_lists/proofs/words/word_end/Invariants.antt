use Rattle.std.proofs.Common.{◌≡◌, ◌+◌, drop}
use Rattle.std.specs.List.{position_or_len}
use Rattle.px_host_lists.specs.Words.{is_space}
use Rattle.px_host_lists.proofs.words.word_end.Given as goal

abbrev pub invariant-loop-at : goal.invariant-loop-at
invariant-loop-at l = position_or_len is_space l.text ≡ l.at + position_or_len is_space (drop l.at l.text)
