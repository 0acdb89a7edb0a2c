use Rattle.std.proofs.Common.{◌∙◌, List, ℕ, ap, refl, subst, sym}
use Rattle.std.proofs.lemmas.Bool.{false≢true}
use Rattle.px_headers.specs.Dates.{end_of_dates}
use Rattle.px_headers.proofs.DateLemmas.{le-by}
use Rattle.px_log_lines.specs.Lines.{Keeps, reordered}
use Rattle.px_log_lines.proofs.MomentLemmas.{shown_date, shown_none}
use Rattle.px_log_lines.proofs.moments.push_moment.Goals as goal

pub returns-in-Ok : goal.returns-in-Ok
returns-in-Ok c =
    let is = shown_date c.in-Ok.date c.args.moment c.in-Ok.ensures.value (c.in-Ok.ensures.succeeds.0 refl) in
    subst (λ (l : List ℕ). Keeps c.args.out.now c.push_date.new.out l) (ap reordered c.to_bytes.ensures ∙ sym is) c.push_date.ensures

pub returns-in-Err : goal.returns-in-Err
returns-in-Err c =
    let is = shown_none c.args.moment (le-by end_of_dates c.args.moment (λ within. false≢true (c.in-Err.ensures.succeeds.1 within))) in
    subst (λ (l : List ℕ). Keeps c.args.out.now c.push.new.self l) (sym is) c.push.ensures
