use Rattle.px_serve.proofs.measuring.exchange_measured.Given as goal

abbrev pub ghosts-exchange_through : goal.ghosts-exchange_through
ghosts-exchange_through g a = record { name = a.client_out.ghost_name; before = (g.O.Sink.state a.client_out.now).taken; on = a.measured }
