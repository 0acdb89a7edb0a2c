use Rattle.std.proofs.Common.{refl}
use Rattle.px_patterns.proofs.PlaceLemmas.{begins-from}
use Rattle.px_patterns.proofs.places.begins_with.Goals as goal

pub returns : goal.returns
returns c = begins-from c.same_without_case.result c.args.text.now c.args.front.now _ c.min-end.result c.min-end.ensures refl c.same_without_case.ensures
