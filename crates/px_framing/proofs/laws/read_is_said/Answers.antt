use Rattle.std.proofs.Common.{refl}
use Rattle.px_framing.proofs.BodyLemmas.{body-of}
use Rattle.px_framing.proofs.laws.read_is_said.Goals as goal

pub returns : goal.returns
returns c rule bytes raw plain count r after settled = body-of rule bytes raw plain count r _ after settled refl
