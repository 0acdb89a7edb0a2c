-- The number and the name of the refusal of a template.
use Rattle.std.specs.Prelude.{◌≡◌, ℕ, List, Option, Some, codes}
use Rattle.px_templates.specs.declared.faults.TemplateFault.{TemplateFault}
use Rattle.px_templates.specs.declared.faults.TemplateFault.TheVariants.{OpenCondition, Mem}

abbrev pub template_fault_number : TemplateFault → ℕ
template_fault_number (OpenCondition line) = 28
template_fault_number Mem = 0

abbrev pub template_fault_name : TemplateFault → List ℕ
template_fault_name (OpenCondition line) = codes "OpenCondition"
template_fault_name Mem = codes "Mem"

-- the refusal is at this line, or it is want of memory, which has no cause in the text
abbrev pub IsAt : Option ℕ → TemplateFault → Type 0
IsAt at (OpenCondition line) = at ≡ Some line
IsAt at Mem = Unit {0}
