use Rattle.px_patterns.specs.Urls.{ends_host}
use Rattle.px_patterns.proofs.PlaceLemmas.{end-first, end-none}
use Rattle.px_patterns.proofs.places.host_end.Goals as goal

pub returns-in-Some-clause-end : goal.returns-in-Some-clause-end
returns-in-Some-clause-end c = end-first ends_host c.args.bytes.now c.in-Some.at c.in-Some.ensures.0.high c.in-Some.ensures.1 c.in-Some.ensures.0.before

pub returns-in-None-clause-end : goal.returns-in-None-clause-end
returns-in-None-clause-end c = end-none ends_host c.args.bytes.now c.in-None.ensures
