use Rattle.px_pumps.proofs.HearingLemmas.{cut_front, end_wants, ends_talk, ends_some, refused_gives}
use Rattle.px_pumps.proofs.answering.end_on.Goals as goal

pub returns-in-Ok-write_all-clause-ended : goal.returns-in-Ok-write_all-clause-ended
returns-in-Ok-write_all-clause-ended g c t ask fed put taken h w =
    let e = rw (c.clear.ensures) at (c.in-Ok.ensures.ended ask fed put h) in
    ends_talk ask _ c.in-Ok.flow _ fed c.args.failed put c.end.new.out taken _ _ e w (rw c.as_bytes.ensures at (c.in-Ok-write_all.ensures.bytes t)) (rw c.keeps.ensures at c.end_talk.ensures.value)

pub returns-in-Err-write_all-clause-ended : goal.returns-in-Err-write_all-clause-ended
returns-in-Err-write_all-clause-ended g c t ask fed put taken h w =
    let e = rw (c.clear.ensures) at (c.in-Ok.ensures.ended ask fed put h) in
    rw c.end_refused.ensures.value
    (refused_gives ask fed c.args.failed taken _ c.in-Err-write_all.fault
    (cut_front ask fed c.args.failed put c.end.new.out taken _ _ (ends_some ask _ c.in-Ok.flow fed c.args.failed _ e) (rw c.as_bytes.ensures at (c.in-Err-write_all.ensures.bytes t)) w))

pub returns-in-Err-clause-ended : goal.returns-in-Err-clause-ended
returns-in-Err-clause-ended g c t ask fed put taken h w = rw c.broken.ensures (end_wants ask fed c.args.failed put taken _ (c.in-Err.ensures.so_far ask fed put h) w)
