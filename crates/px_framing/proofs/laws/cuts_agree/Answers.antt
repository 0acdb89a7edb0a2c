use Rattle.px_framing.proofs.BodyLemmas.{cuts-agree}
use Rattle.px_framing.proofs.laws.cuts_agree.Goals as goal

pub returns : goal.returns
returns c rule bytes raw raw' plain plain' count count' r r' x y a b = cuts-agree rule bytes raw raw' plain plain' count count' r r' x y a b
