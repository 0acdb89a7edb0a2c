use Rattle.px_merge.proofs.CandidateLemmas.{host_too}
use Rattle.px_merge.proofs.labels.key_of.Goals as goal

pub returns-in-Some : goal.returns-in-Some
returns-in-Some c = λ url e. c.host_key.ensures url.host (host_too c.args.pattern.now c.in-Some.own.now url c.in-Some.ensures e)
