use Rattle.px_log_lines.proofs.LineLemmas.{keeps_then}
use Rattle.px_log_lines.proofs.moments.push_date.Goals as goal

pub returns : goal.returns
returns c =
    keeps_then (keeps_then (keeps_then (keeps_then (keeps_then (keeps_then (keeps_then c.push.ensures c.push-2.ensures) c.push-3.ensures) c.push-4.ensures)
    c.push-5.ensures) c.push-6.ensures) c.push-7.ensures) c.push-8.ensures
