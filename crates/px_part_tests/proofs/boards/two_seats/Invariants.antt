use Rattle.px_part_tests.proofs.boards.two_seats.Given as goal

abbrev pub ghosts-by_two-N-Ledger : goal.ghosts-by_two-N-Ledger
ghosts-by_two-N-Ledger g a = record { name = a.blank.name; parts = a.blank.seats }

abbrev pub ghosts-by_two-N-BoardName : goal.ghosts-by_two-N-BoardName
ghosts-by_two-N-BoardName g a = record { pair = a.blank.pair }
