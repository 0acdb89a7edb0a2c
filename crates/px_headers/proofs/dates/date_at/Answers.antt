use Rattle.std.proofs.Common.{Some, refl, ap, sym, ◌∙◌}
use Rattle.std.proofs.lemmas.Bool.{false≢true}
use Rattle.px_headers.specs.Dates.{end_of_dates}
use Rattle.px_headers.proofs.DateLemmas.{date_is, date_none, le-by}
use Rattle.px_headers.proofs.dates.date_at.Goals as goal

pub returns-in_ok-from_bytes-in-Ok : goal.returns-in_ok-from_bytes-in-Ok
returns-in_ok-from_bytes-in-Ok c =
    ap Some (c.in_ok-from_bytes-in-Ok.ensures ∙ c.to_bytes-text.ensures) ∙ sym (date_is c.in-Ok.date c.args.moment c.in-Ok.ensures.value (c.in-Ok.ensures.succeeds.0 refl))

pub returns-in-Err : goal.returns-in-Err
returns-in-Err c = sym (date_none c.args.moment (le-by end_of_dates c.args.moment (λ within. false≢true (c.in-Err.ensures.succeeds.1 within))))
