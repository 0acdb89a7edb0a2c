use Rattle.std.proofs.Common.{◌≡◌, ℕ, true, List, [], ◌∷◌, ◌++◌, sym, ap, ◌∙◌, refl}
use Rattle.std.proofs.lemmas.Bool.{eq-eqb}
use Rattle.px_base.specs.Dials.{is_open}
use Rattle.px_base.specs.declared.dials.Dial.{Dial}
use Rattle.px_base.specs.declared.dials.DialOutcome.TheVariants as outcome
use Rattle.px_socks.specs.Dialers.{KeptDialer, outer_state}
use Rattle.px_part_tests.proofs.socks.visit.Goals as goal

-- the link of a first dial is open
first_open : (old new : List Dial) (host : List ℕ) (port mark mark' : ℕ) (offered : List ℕ) → old ≡ [] → new ≡ old ++ record { host = host; port = port; outcome = outcome.Open mark offered } ∷ [] → mark' ≡ mark
    → is_open mark' new ≡ true
first_open old new host port mark mark' offered none added same = rw (added, none, same, eq-eqb mark mark refl) refl

pub hang_up-requires-clause-open : goal.hang_up-requires-clause-open
hang_up-requires-clause-open g c = λ t.
    first_open _ _ _ _ _ _ _ (ap (λ (k : KeptDialer). (outer_state k).dials) c.new-dialer.ensures.made)
    (c.in-Ok.ensures.dials (sym c.in-Ok.ensures.goes_on.tells_same ∙ t)) c.listen-heard.ensures.goes_on.mark_same
