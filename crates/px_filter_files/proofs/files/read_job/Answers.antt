use Rattle.std.proofs.Common.{ap, sym, ◌∙◌}
use Rattle.std.specs.Result.{result_ok}
use Rattle.std.proofs.lemmas.Bool.{cond-true, cond-false}
use Rattle.std.proofs.lemmas.Result.{IfOk-weaker}
use Rattle.px_subst.specs.Jobs.{job_of}
use Rattle.px_filter_files.proofs.files.read_job.Goals as goal

pub returns-in-Some : goal.returns-in-Some
returns-in-Some c =
    IfOk-weaker c.read_text.result _ _
    (λ job is. is ∙ ap (λ t. result_ok (job_of t)) c.in-Some.ensures.text ∙ sym (cond-true _ _ _ (sym (rw c.in-Some.is at c.as_text.ensures.utf8))))
    c.read_text.ensures

pub returns-in-None : goal.returns-in-None
returns-in-None c = sym (cond-false _ _ _ (sym (rw c.in-None.is at c.as_text.ensures.utf8)))
