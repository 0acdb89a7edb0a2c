use Rattle.px_exercise.proofs.RunLemmas.{has_run_more}
use Rattle.px_exercise.proofs.runs.run_next.Goals as goal

pub returns-clause-next : goal.returns-clause-next
returns-clause-next g c config number count h =
    let job = c.in_ok-session.ensures in
    let run = c.in_ok-run.ensures in
    has_run_more c.add.new.self c.in_ok-session.session c.in_ok-run.run' h (job.of_job number count h.drawn) (c.sessions_in_order.ensures.more count number)
    (run.run config h.fixed) (run.fixed config h.fixed) (job.next_of_job number count h.drawn) c.in_ok-add.ensures.notes c.in_ok-add.ensures.returned
