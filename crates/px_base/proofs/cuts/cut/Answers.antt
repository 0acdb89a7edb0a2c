use Rattle.std.proofs.Common.{◌==◌}
use Rattle.px_base.proofs.CutLemmas.{cut-some, cut-none}
use Rattle.px_base.proofs.cuts.cut.Goals as goal

pub returns-in-Some-clause-parts : goal.returns-in-Some-clause-parts
returns-in-Some-clause-parts c = cut-some (λ b. b == c.args.separator) c.args.bytes.now c.in-Some.at (c.in-Some.ensures.value)

pub returns-in-None-clause-parts : goal.returns-in-None-clause-parts
returns-in-None-clause-parts c = cut-none (λ b. b == c.args.separator) c.args.bytes.now (c.in-None.ensures.value)
