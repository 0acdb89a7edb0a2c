use Rattle.std.proofs.Common.{List, ℕ, [], ◌∷◌, ◌++◌, ap, ◌∙◌}
use Rattle.px_log_lines.specs.Lines.{log_line}
use Rattle.px_log_lines.proofs.LineLemmas.{keeps_then}
use Rattle.px_log_lines.proofs.lines.LogEntry.line.Goals as goal

pub returns : goal.returns
unfolding log_line
returns c =
    let all = keeps_then (keeps_then (keeps_then (rw c.new-out.ensures at c.push_client.ensures) c.push_request.ensures) c.push_status.ensures) c.push_ending.ensures in
    c.end.ensures ∙ ap (λ (text : List ℕ). text ++ 10 ∷ []) all.shown
