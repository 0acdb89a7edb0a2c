use Rattle.px_serve_command.proofs.boards.serve_desk.Given as goal

abbrev pub ghosts-serve_with_board-N-Ledger : goal.ghosts-serve_with_board-N-Ledger
ghosts-serve_with_board-N-Ledger g a = record { name = a.blank.name; parts = a.blank.seats }

abbrev pub ghosts-serve_with_board-N-BoardName : goal.ghosts-serve_with_board-N-BoardName
ghosts-serve_with_board-N-BoardName g a = record { pair = a.blank.pair }
