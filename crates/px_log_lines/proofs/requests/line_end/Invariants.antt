use Rattle.std.proofs.Common.{◌≡◌, ◌+◌, drop}
use Rattle.std.specs.List.{position_or_len}
use Rattle.px_log_lines.specs.Lines.{is_line_end}
use Rattle.px_log_lines.proofs.requests.line_end.Given as goal

abbrev pub invariant-loop-at : goal.invariant-loop-at
invariant-loop-at l = position_or_len is_line_end l.bytes ≡ l.at + position_or_len is_line_end (drop l.at l.bytes)
