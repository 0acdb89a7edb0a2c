use Rattle.std.specs.Prelude.{◌==◌}
use Rattle.px_patterns.proofs.PlaceLemmas.{place-of}
use Rattle.px_patterns.proofs.places.place.Goals as goal

pub returns : goal.returns
returns c = place-of (λ b. b == c.args.stop) c.args.bytes.now c.place.result c.place.ensures.value
