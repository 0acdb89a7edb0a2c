-- What is known of a machine behind a head, whatever it was fed.
use Rattle.std.proofs.Common.{ℕ, List}
use Rattle.px_answers.specs.declared.forms.Framed.{Framed}
use Rattle.px_answers.specs.declared.courses.Course.{Course}
use Rattle.px_answers.specs.Finished.{Work}
use Rattle.px_answers.specs.Passages.{CourseAfter}
use Rattle.px_answers.proofs.PassageLemmas.{begins, ends_exactly, no_lag}
use Rattle.px_pumps.specs.Pumps.{CourseTells}

pub tells : (w : Work) (f : Framed) (rest put : List ℕ) (c : Course) → CourseAfter w f rest put c → CourseTells w f rest put c
tells w f rest put c h = record { begins = begins w f rest put c h; lag = no_lag w f rest put c h; exact = ends_exactly w f rest put c h }
