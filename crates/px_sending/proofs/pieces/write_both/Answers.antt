use Rattle.std.proofs.Common.{◌∙◌}
use Rattle.px_sending.proofs.PieceLemmas.{second_front}
use Rattle.px_sending.proofs.pieces.write_both.Goals as goal

pub returns-in-Err-write_all-clause-bytes : goal.returns-in-Err-write_all-clause-bytes
returns-in-Err-write_all-clause-bytes g c t = second_front _ _ _ _ _ (c.in-Ok.ensures.bytes t) (c.in-Err-write_all.ensures.bytes (c.in-Ok.ensures.goes_on.tells_same ∙ t))
