use Rattle.std.proofs.Common.{◌≡◌, ℕ, true, ◌==◌, List, [], ◌∷◌, ◌++◌, sym, ◌∙◌, refl}
use Rattle.std.proofs.lemmas.Bool.{or_left, or_right, eq-eqb}
use Rattle.px_base.specs.declared.dials.Dial.{Dial}
use Rattle.px_base.specs.declared.dials.DialOutcome.TheVariants as outcome
use Rattle.px_base.specs.Dials.{is_open, is_open_at}
use Rattle.px_part_tests.proofs.pool.visit.Goals as goal

-- a link that was just dialled is open
open_last : (host : List ℕ) (port mark : ℕ) (offered : List ℕ) (ds : List Dial) → is_open mark (ds ++ record { host = host; port = port; outcome = outcome.Open mark offered } ∷ []) ≡ true
open_last host port mark offered [] = or_left (mark == mark) _ (eq-eqb mark mark refl)
open_last host port mark offered (d ∷ ds) = or_right (is_open_at mark d.outcome) _ (open_last host port mark offered ds)

opened : (m mark : ℕ) (ds new : List Dial) (host : List ℕ) (port : ℕ) (offered : List ℕ) → new ≡ ds ++ record { host = host; port = port; outcome = outcome.Open mark offered } ∷ [] → m ≡ mark → is_open m new ≡ true
opened m mark ds new host port offered e f = rw (e, f) (open_last host port mark offered ds)

pub hang_up-requires-clause-open : goal.hang_up-requires-clause-open
hang_up-requires-clause-open g c = λ t. opened _ _ _ _ _ _ _ (c.in-Ok.ensures.dials (sym c.dial.ensures.goes_on.tells_same ∙ t)) c.read.ensures.goes_on.mark_same
