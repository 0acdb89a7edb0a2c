-- A job's text by its first two bytes.
use Rattle.std.proofs.Common.{◌≡◌, ℕ, ◌<◌, ◌≤◌, ◌&&◌, cond, eqb, List, [], ◌∷◌, drop, length, get_or, Err, refl, arith}
use Rattle.px_subst.specs.declared.faults.JobFault.TheVariants.{NoDelimiter}
use Rattle.px_subst.specs.Fields.{is_delimiter}
use Rattle.px_subst.specs.Jobs.{job_of, with_delimiter}

pub job_of-short : (text : List ℕ) → length text < 2 → job_of text ≡ Err NoDelimiter
unfolding job_of
job_of-short [] short = refl
job_of-short (b ∷ []) short = refl
job_of-short (b ∷ d ∷ rest) short = absurd (omega arith)

pub job_of-start : (text : List ℕ) → 2 ≤ length text →
    job_of text ≡ cond (eqb (get_or text 0 0) 115 && is_delimiter (get_or text 1 0)) (with_delimiter (get_or text 1 0) (drop 2 text)) (Err NoDelimiter)
unfolding job_of
job_of-start [] long = absurd (omega arith)
job_of-start (b ∷ []) long = absurd (omega arith)
job_of-start (b ∷ d ∷ rest) long = refl
