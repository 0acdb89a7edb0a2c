use Rattle.px_shared.proofs.FrontLemmas.{tells_front}
use Rattle.px_shared.proofs.laws.pools_hear_fronts.Goals as goal

pub returns : goal.returns
returns g c = λ v before pool_dials inner_dials history h. tells_front v before pool_dials inner_dials history h
