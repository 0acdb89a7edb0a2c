use Rattle.std.specs.Net.ToAddrs.{host_addrs}
use Rattle.px_sockets.proofs.AddressLemmas.{none_before, one_more, among}
use Rattle.px_sockets.proofs.listeners.bind_first.Goals as goal

pub loop-init : goal.loop-init
loop-init c = none_before (host_addrs c.args.addresses)

pub returns-in-Ok-clause-among : goal.returns-in-Ok-clause-among
returns-in-Ok-clause-among c = rw c.in-Ok.ensures.address (among (host_addrs c.args.addresses) c.loop.addresses c.next.new.self c.in-Some.address c.loop.invariant c.in-Some.ensures.steps)

pub loop-preserved : goal.loop-preserved
loop-preserved c = one_more (host_addrs c.args.addresses) c.loop.addresses c.next.new.self c.in-Some.address c.loop.invariant c.in-Some.ensures.steps
