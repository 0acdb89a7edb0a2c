use Rattle.std.proofs.Common.{sym}
use Rattle.px_sending.proofs.HeadLemmas.{head_is}
use Rattle.px_sending.proofs.heads.next_head.Goals as goal

pub returns : goal.returns
returns c =
    rw (c.from_vec.ensures, c.in_ok-extend_from_slice.ensures.items, c.in_ok-push_framing.ensures, c.in_ok-push_fields.ensures, c.in_ok-push_line.ensures, c.in_ok-push_next_line.ensures, c.in_ok-head.ensures.items, sym c.next.view_is)
    (head_is _)
