-- The names of refusals by their numbers.
use Rattle.std.proofs.Common.{◌≡◌, ◌≢◌, refl}
use Rattle.px_actions.specs.Faults.{refusal}
use Rattle.px_actions.specs.declared.faults.ActionFault.{ActionFault}
use Rattle.px_actions.specs.declared.faults.ActionFault.TheVariants as action
use Rattle.px_patterns.specs.Faults.{pattern_fault_name, pattern_fault_number}
use Rattle.px_patterns.specs.declared.faults.PatternFault.{PatternFault}
use Rattle.px_patterns.specs.declared.faults.PatternFault.TheVariants as pattern
use Rattle.px_action_files.specs.Faults.{refusal_name}

pub word_named : (fault : ActionFault) → fault ≢ action.Mem → refusal_name (refusal fault).number ≡ (refusal fault).name
unfolding refusal_name
word_named action.UnknownAction other = refl
word_named action.ParameterWanted other = refl
word_named action.ParameterUnwanted other = refl
word_named action.BadParameter other = refl
word_named action.Mem other = absurd (other refl)

pub pattern_named : (fault : PatternFault) → fault ≢ pattern.Mem → refusal_name (pattern_fault_number fault) ≡ pattern_fault_name fault
unfolding refusal_name
pattern_named pattern.HasProtocol other = refl
pattern_named pattern.BadPort other = refl
pattern_named pattern.BadClass other = refl
pattern_named pattern.BadRegex other = refl
pattern_named pattern.EmptyLabel other = refl
pattern_named pattern.BadAddress other = refl
pattern_named pattern.Mem other = absurd (other refl)
