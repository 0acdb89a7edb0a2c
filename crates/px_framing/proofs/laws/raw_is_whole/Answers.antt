use Rattle.px_framing.proofs.BodyLemmas.{raw-whole}
use Rattle.px_framing.proofs.laws.raw_is_whole.Goals as goal

pub returns : goal.returns
returns c bytes p x e = raw-whole bytes p x e
