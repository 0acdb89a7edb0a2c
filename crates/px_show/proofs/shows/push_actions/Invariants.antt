use Rattle.px_show.proofs.shows.push_actions.Given as goal

abbrev pub ghosts-actions : goal.ghosts-actions
ghosts-actions a = record { name = a.blank.name; parts = a.blank.parts }
