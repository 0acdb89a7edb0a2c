use Rattle.std.proofs.Common.{List, ℕ, rules, subst}
use Rattle.px_head.specs.Prints.{status_text}
use Rattle.px_log_lines.specs.Lines.{Keeps}
use Rattle.px_log_lines.proofs.LineLemmas.{keeps_then}
use Rattle.px_log_lines.proofs.lines.push_digits.Goals as goal

pub returns : goal.returns
unfolding status_text
returns c = subst (λ (zs : List ℕ). Keeps c.args.out.now c.push-3.new.self zs) (search rules) (keeps_then c.push-2.ensures c.push-3.ensures)
