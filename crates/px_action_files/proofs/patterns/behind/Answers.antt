use Rattle.px_action_files.proofs.PatternLemmas.{strips_text}
use Rattle.px_action_files.proofs.patterns.behind.Goals as goal

pub returns : goal.returns
returns c = strips_text _ _ _ c.strip_prefix.ensures.cases
