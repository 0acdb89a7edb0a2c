use Rattle.px_sockets.specs.Bounds.{IsAddressOf}
use Rattle.px_sockets.proofs.AddressLemmas.{address_of, holds_of}
use Rattle.px_sockets.proofs.listeners.SocketListener.listen.Goals as goal

pub returns-in-Ok-bind_first-clause-there : goal.returns-in-Ok-bind_first-clause-there
returns-in-Ok-bind_first-clause-there c =
    holds_of c.over.result (λ l. l.bound) c.in-Ok-bind_first.bound.address (IsAddressOf c.args.host.now c.args.port) c.over.ensures.bound
    (address_of c.args.host.now c.args.port c.in-Ok-to_socket_addrs.addresses c.in-Ok-bind_first.bound.address (rw c.in-Some.ensures.text at c.in-Ok-to_socket_addrs.ensures.gives)
    c.in-Ok-bind_first.ensures.port c.in-Ok-bind_first.ensures.among)
