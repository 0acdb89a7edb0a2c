use Rattle.std.proofs.Common.{◌∙◌}
use Rattle.px_sending.proofs.MessageLemmas.{head_cut, head_wanting, interim_wanting, head_and_body}
use Rattle.px_sending.proofs.sends.send.Goals as goal

pub returns-in-Err-Failed-clause-sends : goal.returns-in-Err-Failed-clause-sends
returns-in-Err-Failed-clause-sends g c s p o = head_cut c.args.message.now _ _ _ _ (rw c.as_bytes.ensures at (c.in-Err-Failed.ensures.bytes p))

pub returns-in-Err-Mem-clause-sends : goal.returns-in-Err-Mem-clause-sends
returns-in-Err-Mem-clause-sends g c s p o = head_wanting c.args.message.now _ _ _ _ (rw c.as_bytes.ensures at (c.in-Err-Mem.ensures.bytes p))

pub returns-in-Err-Mem-write_all-clause-sends : goal.returns-in-Err-Mem-write_all-clause-sends
returns-in-Err-Mem-write_all-clause-sends g c s p o =
    interim_wanting c.args.message.now _ _ _ _ _ (rw c.as_bytes.ensures at (c.in-Ok.ensures.bytes p)) (rw c.interim.ensures at (c.in-Err-Mem-write_all.ensures.bytes o))

pub returns-in-Ok-write_all-clause-sends : goal.returns-in-Ok-write_all-clause-sends
returns-in-Ok-write_all-clause-sends g c s p o =
    head_and_body c.args.message.now _ _ _ _ _ _ _ _ (rw c.as_bytes.ensures at (c.in-Ok.ensures.bytes p)) (rw c.interim.ensures at (c.in-Ok-write_all.ensures.bytes o))
    (c.send_body.ensures.sends s (c.in-Ok.ensures.goes_on.tells_same ∙ p))

pub returns-in-Ok-write_all-clause-write_cause : goal.returns-in-Ok-write_all-clause-write_cause
returns-in-Ok-write_all-clause-write_cause g c = rw c.send_body.ensures.unwritten c.in-Ok-write_all.ensures.cause
