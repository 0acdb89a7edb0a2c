use Rattle.px_log_lines.specs.Lines.{status_part}
use Rattle.px_log_lines.proofs.LineLemmas.{keeps_then}
use Rattle.px_log_lines.proofs.lines.push_status.Goals as goal

pub returns : goal.returns
unfolding status_part
returns c = keeps_then (keeps_then c.push_digits.ensures c.push.ensures) (rw (c.as_bytes.ensures.value, c.format.ensures.text) at c.push-2.ensures)
