use Rattle.px_log_lines.proofs.LineLemmas.{keeps_then}
use Rattle.px_log_lines.specs.Lines.{request_part}
use Rattle.px_log_lines.proofs.lines.push_request.Goals as goal

pub returns : goal.returns
unfolding request_part
returns c = keeps_then (keeps_then c.push.ensures (rw c.asked_line.ensures at c.push_line.ensures)) c.push-2.ensures
