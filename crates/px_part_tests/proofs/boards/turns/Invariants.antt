use Rattle.px_part_tests.proofs.boards.turns.Given as goal

abbrev pub ghosts-by_turns-N-Ledger : goal.ghosts-by_turns-N-Ledger
ghosts-by_turns-N-Ledger g a = record { name = a.blank.name; parts = a.blank.seats }

abbrev pub ghosts-by_turns-N-BoardName : goal.ghosts-by_turns-N-BoardName
ghosts-by_turns-N-BoardName g a = record { pair = a.blank.pair }
