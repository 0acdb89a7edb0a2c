use Rattle.std.proofs.Common.{◌∙◌, arith, ap}
use Rattle.px_sockets.specs.Guests.{in_use}
use Rattle.px_sockets.proofs.GuestLemmas.{used_removed}
use Rattle.px_sockets.proofs.guests.close_ended.Goals as goal

pub loop-at-preserved-then-is_done_at : goal.loop-at-preserved-then-is_done_at
loop-at-preserved-then-is_done_at c =
    ap in_use c.remove-guest.ensures.items ∙ used_removed c.is_done_at.new.all.items c.loop-at.at (omega arith) (c.is_done_at.ensures.ended c.if-is_done_at.true) ∙ c.is_done_at.ensures.used ∙ c.loop-at.invariant
