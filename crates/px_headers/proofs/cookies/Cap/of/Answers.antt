use Rattle.std.proofs.Common.{◌∙◌, sym}
use Rattle.px_headers.proofs.DateLemmas.{cap-none, cap-some}
use Rattle.px_headers.proofs.cookies.Cap.of.Goals as goal

pub returns-in-Some : goal.returns-in-Some
returns-in-Some c = cap-some c.args.moment c.args.minutes c.saturating_add-latest.result c.in-Some.date c.saturating_add-latest.ensures (sym c.in-Some.is ∙ c.in_ok-date.ensures)

pub returns-in-None : goal.returns-in-None
returns-in-None c = cap-none c.args.moment c.args.minutes c.saturating_add-latest.result c.saturating_add-latest.ensures (sym c.in-None.is ∙ c.in_ok-date.ensures)
