use Rattle.px_log_lines.proofs.LineLemmas.{keeps_then}
use Rattle.px_log_lines.specs.Lines.{ending_part}
use Rattle.px_log_lines.proofs.lines.push_ending.Goals as goal

pub returns : goal.returns
unfolding ending_part
returns c = keeps_then (keeps_then c.push.ensures (rw (c.as_bytes.ensures.value, c.ending_name.ensures) at c.push-2.ensures)) c.push-3.ensures
