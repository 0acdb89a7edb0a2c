use Rattle.std.proofs.Common.{refl}
use Rattle.px_actions.specs.declared.faults.ActionFault.TheVariants as action
use Rattle.px_patterns.specs.declared.faults.PatternFault.TheVariants as pattern
use Rattle.px_action_files.specs.Faults.{refusal_name}
use Rattle.px_action_files.proofs.NameLemmas.{word_named, pattern_named}
use Rattle.px_action_files.proofs.laws.numbers_name_refusals.Goals as goal

pub returns-clause-words : goal.returns-clause-words
returns-clause-words c = word_named

pub returns-clause-patterns : goal.returns-clause-patterns
returns-clause-patterns c = pattern_named
