use Rattle.std.specs.Prelude.{◌==◌}
use Rattle.px_patterns.specs.declared.TheConstants.{COLON}
use Rattle.px_patterns.proofs.PlaceLemmas.{end-at, end-whole}
use Rattle.px_patterns.proofs.places.name_end.Goals as goal

pub returns-in-Some-clause-end : goal.returns-in-Some-clause-end
returns-in-Some-clause-end c = end-at (λ b. b == COLON) c.args.bytes.now c.in-Some.at c.in-Some.ensures

pub returns-in-None-clause-end : goal.returns-in-None-clause-end
returns-in-None-clause-end c = end-whole (λ b. b == COLON) c.args.bytes.now c.in-None.ensures
