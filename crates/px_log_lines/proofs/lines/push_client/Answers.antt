use Rattle.px_log_lines.proofs.LineLemmas.{keeps_then}
use Rattle.px_log_lines.specs.Lines.{client_part}
use Rattle.px_log_lines.proofs.lines.push_client.Goals as goal

pub returns : goal.returns
unfolding client_part
returns c = keeps_then (keeps_then (keeps_then c.push_escaped.ensures c.push.ensures) c.push_moment.ensures) c.push-2.ensures
