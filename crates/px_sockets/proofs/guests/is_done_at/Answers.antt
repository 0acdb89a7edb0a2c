use Rattle.std.proofs.Common.{sym}
use Rattle.px_sockets.proofs.GuestLemmas.{used_set}
use Rattle.px_sockets.proofs.guests.is_done_at.Goals as goal

pub returns-clause-used : goal.returns-clause-used
returns-clause-used c = used_set c.args.all.now.items c.args.at c.index_mut.result.now c.is_done.new.self c.requires.within (sym c.index_mut.ensures.value) c.is_done.ensures.ended_same c.is_done.ensures.used_same
