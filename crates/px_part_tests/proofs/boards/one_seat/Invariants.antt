use Rattle.px_part_tests.proofs.boards.one_seat.Given as goal

abbrev pub ghosts-by_one-N-Ledger : goal.ghosts-by_one-N-Ledger
ghosts-by_one-N-Ledger g a = record { name = a.blank.name; parts = a.blank.seats }

abbrev pub ghosts-by_one-N-BoardName : goal.ghosts-by_one-N-BoardName
ghosts-by_one-N-BoardName g a = record { pair = a.blank.pair }
