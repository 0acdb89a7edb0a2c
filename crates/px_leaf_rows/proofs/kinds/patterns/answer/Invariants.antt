use Rattle.px_leaf_rows.proofs.kinds.patterns.answer.Given as goal

abbrev pub ghosts-matches_counted : goal.ghosts-matches_counted
ghosts-matches_counted a = record { name = a.blank.name; parts = a.blank.parts }
