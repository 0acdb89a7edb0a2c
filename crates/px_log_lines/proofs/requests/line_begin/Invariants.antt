use Rattle.std.proofs.Common.{◌≡◌, ◌+◌, drop}
use Rattle.std.specs.List.{prefix_len}
use Rattle.px_log_lines.specs.Lines.{is_line_end}
use Rattle.px_log_lines.proofs.requests.line_begin.Given as goal

abbrev pub invariant-loop-at : goal.invariant-loop-at
invariant-loop-at l = prefix_len is_line_end l.bytes ≡ l.at + prefix_len is_line_end (drop l.at l.bytes)
