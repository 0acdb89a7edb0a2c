use Rattle.px_leaf_rows.proofs.kinds.sections.sections.Given as goal

abbrev pub ghosts-matched : goal.ghosts-matched
ghosts-matched a = record { name = a.blank.name; parts = a.blank.parts }
