-- The refusals of action words: number and name.
use Rattle.std.specs.Prelude.{ℕ, List, codes}
use Rattle.px_actions.specs.declared.faults.ActionFault.{ActionFault}
use Rattle.px_actions.specs.declared.faults.ActionFault.TheVariants as fault

pub record Refusal : Type 0 where
  pub number : ℕ
  pub name : List ℕ

-- want of memory is no refusal, and has the number 0
abbrev pub refusal : ActionFault → Refusal
refusal fault.UnknownAction = record { number = 12; name = codes "UnknownAction" }
refusal fault.ParameterWanted = record { number = 13; name = codes "ParameterWanted" }
refusal fault.ParameterUnwanted = record { number = 14; name = codes "ParameterUnwanted" }
refusal fault.BadParameter = record { number = 15; name = codes "BadParameter" }
refusal fault.Mem = record { number = 0; name = codes "Mem" }
