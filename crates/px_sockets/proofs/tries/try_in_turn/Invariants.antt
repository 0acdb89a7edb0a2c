use Rattle.std.specs.Net.ToAddrs.{host_addrs}
use Rattle.px_sockets.proofs.TurnLemmas.{Turned}
use Rattle.px_sockets.proofs.tries.try_in_turn.Given as goal

abbrev pub invariant-loop-address : goal.invariant-loop-address
invariant-loop-address g l = Turned (g.T.Tries.tried l.initial.tries) (g.T.Tries.tried l.tries) (host_addrs l.initial.addresses) (host_addrs l.addresses)
