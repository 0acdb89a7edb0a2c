use Rattle.std.specs.Net.ToAddrs.{host_addrs}
use Rattle.px_sockets.proofs.AddressLemmas.{IsBehind}
use Rattle.px_sockets.proofs.listeners.bind_first.Given as goal

abbrev pub invariant-loop : goal.invariant-loop
invariant-loop l = IsBehind (host_addrs l.initial.addresses) (host_addrs l.addresses)
