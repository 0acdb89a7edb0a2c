use Rattle.px_metered.proofs.MeterLemmas.{told}
use Rattle.px_metered.proofs.meters.Meter.returned.Goals as goal

pub returns : goal.returns
returns c = λ came was. told c.args.self.now came c.status_in.result c.args.self.now.matched_within c.args.self.now.body_within c.status_in.ensures was
