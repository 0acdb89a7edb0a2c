use Rattle.px_base.proofs.CutLemmas.{position-first, first-within}
use Rattle.px_base.proofs.cuts.place.Goals as goal

pub returns-clause-value : goal.returns-clause-value
returns-clause-value c = position-first c.args.byte c.args.bytes.now c.memchr.result c.memchr.ensures

pub returns-clause-within : goal.returns-clause-within
returns-clause-within c = first-within c.args.byte c.args.bytes.now c.memchr.result c.memchr.ensures
