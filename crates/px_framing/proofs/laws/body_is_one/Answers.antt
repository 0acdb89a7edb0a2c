use Rattle.px_framing.proofs.BodyLemmas.{body-one}
use Rattle.px_framing.proofs.laws.body_is_one.Goals as goal

pub returns : goal.returns
returns c rule bytes p q x y = body-one rule bytes p q x y
