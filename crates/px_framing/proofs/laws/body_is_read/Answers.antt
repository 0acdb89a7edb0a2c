use Rattle.px_framing.proofs.BodyLemmas.{whole}
use Rattle.px_framing.proofs.laws.body_is_read.Goals as goal

pub returns : goal.returns
returns c rule bytes = whole rule bytes
