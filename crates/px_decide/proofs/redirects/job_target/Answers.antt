use Rattle.std.proofs.Common.{◌≡◌, ◌∙◌, Result, subst, sym}
use Rattle.std.specs.Prelude.{IfOk}
use Rattle.px_subst.specs.declared.faults.JobFault.{JobFault}
use Rattle.px_subst.specs.Jobs.{JobParts, job_of}
use Rattle.px_decide.specs.Targets.{job_target}
use Rattle.px_decide.proofs.TargetLemmas.{result_ok-Some}
use Rattle.px_decide.proofs.redirects.job_target.Goals as goal

pub returns-in-Some : goal.returns-in-Some
returns-in-Some c =
    let is = result_ok-Some (job_of c.args.job.now) c.in-Some.job (sym c.in_ok-job.ensures ∙ c.in-Some.is) in
    subst (λ (r : Result JobParts JobFault). IfOk c.run_job.result (λ target. target ≡ job_target c.args.vars.now c.args.printed.now r)) (sym is) c.run_job.ensures
