use Rattle.std.proofs.Common.{sym}
use Rattle.px_answers.proofs.PassageLemmas.{begins, ends_exactly, no_lag}
use Rattle.px_answers.proofs.passages.Passage.feed.Goals as goal

pub returns-in_err-self-inside-clause-so_far : goal.returns-in_err-self-inside-clause-so_far
returns-in_err-self-inside-clause-so_far c w rest put h = begins w c.args.self.now.framed rest put c.args.self.now.course h

pub returns-clause-so_far : goal.returns-clause-so_far
returns-clause-so_far c w rest put h = begins w c.args.self.now.framed rest put c.args.self.now.course h

pub returns-clause-after : goal.returns-clause-after
returns-clause-after c rest put h = rw (sym c.self.view_is) (c.in_ok-self-inside.ensures.after rest put (rw c.replace-course.ensures.value (rw (sym c.self.view_is) at h)))

pub returns-clause-done : goal.returns-clause-done
returns-clause-done c rest put h = rw (sym c.self.view_is) (ends_exactly _ _ _ _ _ (c.in_ok-self-inside.ensures.after rest put (rw c.replace-course.ensures.value (rw (sym c.self.view_is) at h))))

pub returns-clause-lag : goal.returns-clause-lag
returns-clause-lag c rest put h = rw (sym c.self.view_is) (no_lag _ _ _ _ _ (c.in_ok-self-inside.ensures.after rest put (rw c.replace-course.ensures.value (rw (sym c.self.view_is) at h))))
