use Rattle.std.proofs.Common.{refl}
use Rattle.px_exercise.specs.Exercises.{spelled_by}
use Rattle.px_exercise.proofs.LoadLemmas.{no_read_fault}
use Rattle.px_exercise.proofs.exercises.load_files.Goals as goal

pub returns-clause-config : goal.returns-clause-config
returns-clause-config c = rw c.in_ok-files.ensures.contents at (c.load.ensures.config refl)

pub returns-clause-refused : goal.returns-clause-refused
returns-clause-refused c =
    let made = c.in_ok-files.ensures in
    let on = c.load.ensures.go_on in
    no_read_fault (spelled_by c.args.files) c.load.result _ _ (rw made.contents at (c.load.ensures.refused refl)) c.load.ensures.cause made.calm.0 (on.steady_kept made.calm.1).1.0
