use Rattle.std.proofs.Common.{◌≡◌, true, eqb, get_or, ap, sym, ◌∙◌, ne_eqb, arith}
use Rattle.std.proofs.lemmas.Bool.{cond-true, cond-false, and_from, and_left, and_right}
use Rattle.std.proofs.lemmas.Bool.Decides.{nat_tests}
use Rattle.px_subst.specs.Jobs.{job_of, with_delimiter}
use Rattle.px_subst.proofs.FieldLemmas.{slice_to_end}
use Rattle.px_subst.proofs.JobLemmas.{job_of-short, job_of-start}
use Rattle.px_subst.proofs.jobs.Job.read.Goals as goal
use Rattle.px_subst.proofs.jobs.Job.read.Goals.{then-bytes-lt2-via-then-bytes-lt2, then-bytes-lt2-via-else-bytes-lt2+then-bytes-ne115, then-bytes-lt2-via-else-bytes-lt2+else-bytes-ne115+then-not-is_delimiter}

pub returns-then-bytes-lt2 : goal.returns-then-bytes-lt2
returns-then-bytes-lt2 c = λ _.
    let bytes = c.as_bytes-bytes.result.now in
    sym (ap job_of (sym c.as_bytes-bytes.ensures.value)
    ∙ (elim c.then-bytes-lt2.branch [
      | then-bytes-lt2-via-then-bytes-lt2 w ↦ job_of-short bytes w.if-bytes-lt2.true
      | then-bytes-lt2-via-else-bytes-lt2+then-bytes-ne115 w ↦ job_of-start bytes w.if-bytes-lt2.false
          ∙ cond-false _ _ _ (and_left _ _ (ne_eqb (get_or bytes 0 0) 115 w.if-bytes-ne115.true))
      | then-bytes-lt2-via-else-bytes-lt2+else-bytes-ne115+then-not-is_delimiter w ↦ job_of-start bytes w.if-bytes-lt2.false
          ∙ cond-false _ _ _ (and_right _ _ (sym w.is_delimiter.ensures ∙ w.if-not-is_delimiter.true))
    ]))

pub returns : goal.returns
returns c = λ kept.
    let bytes = c.as_bytes-bytes.result.now in
    let is_s : eqb (get_or bytes 0 0) 115 ≡ true = grind (arith, nat_tests) in
    c.read_fields.ensures kept
    ∙ ap (with_delimiter (get_or bytes 1 0)) (slice_to_end 2 bytes)
    ∙ sym (ap job_of (sym c.as_bytes-bytes.ensures.value) ∙ job_of-start bytes c.if-bytes-lt2.false
    ∙ cond-true _ _ _ (and_from _ _ is_s (sym c.is_delimiter.ensures ∙ c.if-not-is_delimiter.false)))
