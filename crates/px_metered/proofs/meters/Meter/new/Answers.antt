use Rattle.std.proofs.Common.{refl}
use Rattle.px_metered.proofs.MeterLemmas.{fresh}
use Rattle.px_metered.proofs.meters.Meter.new.Goals as goal

pub returns : goal.returns
returns c = fresh _ refl refl refl refl
