use Rattle.std.proofs.Common.{rules, refl, ap, ◌∙◌, ◌≢◌, List, ℕ, true}
use Rattle.px_base.specs.Sources.{fresh_source}
use Rattle.px_notes.specs.declared.sessions.SessionEnd.TheVariants as end
use Rattle.px_exercise.proofs.RunLemmas.{fixed_behind, is_run}
use Rattle.px_exercise.proofs.runs.run_session.Goals as goal

pub returns-clause-run : goal.returns-clause-run
returns-clause-run g c config only =
    let memory : c.serve_cold-served.result.end ≢ end.NoMemory = search rules in
    rw c.into_taken.ensures (is_run (rw (← c.ends.view_is, c.new-ends.ensures) at c.serve_cold-served.ensures.serves) refl only (rw c.in_ok-from_bytes.ensures refl)
    (rw (c.in_ok-client_in.ensures ∙ ap (λ (bytes : List ℕ). fresh_source bytes true) c.as_bytes.ensures) refl)
    refl c.new-client_out.ensures c.in_ok-dialer.ensures.state c.in_ok-clock.ensures.tells c.in_ok-clock.ensures.coming
    memory refl refl)

pub returns-clause-fixed : goal.returns-clause-fixed
returns-clause-fixed g c config only = fixed_behind c.serve_cold-served.ensures.serves refl only
