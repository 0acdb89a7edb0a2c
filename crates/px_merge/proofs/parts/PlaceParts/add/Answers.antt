use Rattle.px_merge.proofs.FinderLemmas.{asked_path, asked_same, once_always}
use Rattle.px_merge.proofs.parts.PlaceParts.add.Goals as goal

pub returns-in_ok-add_path-in-Some-clause-asked : goal.returns-in_ok-add_path-in-Some-clause-asked
returns-in_ok-add_path-in-Some-clause-asked c =
    asked_path c.args.sections.now c.args.self.now c.add_path.new.self c.in-Some.expression.now c.args.place (rw c.in-Some.is at c.in_ok-expression.ensures)
    c.in_ok-add_path-in-Some.ensures.union c.in_ok-add_path-in-Some.ensures.paths

pub returns-in_ok-add_always-in-None-clause-once : goal.returns-in_ok-add_always-in-None-clause-once
returns-in_ok-add_always-in-None-clause-once c =
    once_always c.args.self.now c.add_always.new.self c.args.place c.in_ok-add_always-in-None.ensures.always c.in_ok-add_always-in-None.ensures.paths

pub returns-in_ok-add_always-in-None-clause-asked : goal.returns-in_ok-add_always-in-None-clause-asked
returns-in_ok-add_always-in-None-clause-asked c =
    asked_same c.args.sections.now c.args.self.now c.add_always.new.self c.in_ok-add_always-in-None.ensures.union c.in_ok-add_always-in-None.ensures.paths
