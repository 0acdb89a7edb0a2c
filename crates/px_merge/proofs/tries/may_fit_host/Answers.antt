use Rattle.std.proofs.Common.{ap, ◌∙◌, sym}
use Rattle.px_patterns.specs.Hosts.{host_part_matches}
use Rattle.px_merge.specs.Candidates.{part_is_candidate}
use Rattle.px_merge.proofs.CandidateLemmas.{expression_is_candidate}
use Rattle.px_merge.proofs.tries.may_fit_host.Goals as goal

pub returns-in-Some-clause-other : goal.returns-in-Some-clause-other
returns-in-Some-clause-other c = λ e. ap (λ h. host_part_matches h c.args.host.now) c.in-Some.ensures ∙ sym c.matches.ensures.value ∙ e

pub returns-in-Some-clause-candidate : goal.returns-in-Some-clause-candidate
returns-in-Some-clause-candidate c = λ e. ap (λ h. part_is_candidate h c.args.host.now) c.in-Some.ensures ∙ c.matches.ensures.candidate e

pub returns-in-None-clause-candidate : goal.returns-in-None-clause-candidate
returns-in-None-clause-candidate c = λ e. expression_is_candidate c.args.pattern.now.host c.args.host.now c.in-None.ensures
