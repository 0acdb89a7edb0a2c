use Rattle.px_answers.proofs.SettledLemmas.{settled}
use Rattle.px_answers.proofs.laws.settled_at_end.Goals as goal

pub returns : goal.returns
returns c w f bytes more failed n = settled w f bytes more failed n
