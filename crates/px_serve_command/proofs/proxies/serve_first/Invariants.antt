use Rattle.px_serve_command.proofs.proxies.serve_first.Given as goal

abbrev pub ghosts-serve_sharing : goal.ghosts-serve_sharing
ghosts-serve_sharing g a = record { doors = g.A.Doors.state a.parts.doors }
