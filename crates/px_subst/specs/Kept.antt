-- What a job is, by what is built of it, and what is kept from run to run.
use Rattle.px_subst.specs.declared.jobs.JobForm.{JobForm}
use Rattle.px_subst.specs.declared.jobs.JobForm.TheVariants as form
use Rattle.px_subst.specs.declared.kept_jobs.KeptForm.{KeptForm}
use Rattle.px_subst.specs.declared.kept_jobs.KeptForm.TheVariants as kept
use Rattle.px_subst.specs.Jobs.{JobParts}
use Rattle.px_subst.specs.Parts.{fixed_job, worded_job}

abbrev pub job_in_form : JobForm → JobParts
job_in_form (form.Fixed built) = fixed_job built.value
job_in_form (form.Worded job) = worded_job job.value

abbrev pub job_kept : KeptForm → JobParts
job_kept (kept.Fixed built) = fixed_job built
job_kept (kept.Worded job) = worded_job job
