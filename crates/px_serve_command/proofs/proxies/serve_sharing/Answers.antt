use denote.Param.Send.{sendable}
use Rattle.std.proofs.Common.{sym}
use Rattle.px_link_pool.proofs.Crossing.{pool_send}
use Rattle.std.proofs.Crossing.{crosses}
use Rattle.px_serve_command.proofs.proxies.serve_sharing.Goals as goal

pub returns-clause-serves : goal.returns-clause-serves
returns-clause-serves g c = record { doors = _; serves = rw c.new-doors.ensures at c.serve_loaded-status.ensures.serves; below = c.into_inner-doors.ensures.below }

pub returns-clause-goes_on : goal.returns-clause-goes_on
returns-clause-goes_on g c = record {
  files = c.serve_loaded-status.ensures.goes_on.files;
  doors = rw (sym c.requires.opening) at c.into_inner-doors.ensures.goes_on;
  errors = c.serve_loaded-status.ensures.goes_on.errors;
}

pub serve_loaded-status-requires-send-A-Conn-Dial : goal.serve_loaded-status-requires-send-A-Conn-Dial
serve_loaded-status-requires-send-A-Conn-Dial g c κs within = search (sendable, crosses, pool_send) depth 60 fits 20000
