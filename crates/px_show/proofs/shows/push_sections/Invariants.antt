use Rattle.px_show.proofs.shows.push_sections.Given as goal

abbrev pub ghosts-matched : goal.ghosts-matched
ghosts-matched a = record { name = a.blank.name; parts = a.blank.parts }
