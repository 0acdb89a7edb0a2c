-- The numbers and names of refusals.
use Rattle.std.specs.Prelude.{◌≡◌, ℕ, List, Option, None, Result, Err, codes}
use Rattle.px_patterns.specs.declared.faults.PatternFault.{PatternFault}
use Rattle.px_patterns.specs.declared.faults.PatternFault.TheVariants as pattern
use Rattle.px_patterns.specs.declared.faults.UrlFault.{UrlFault}
use Rattle.px_patterns.specs.declared.faults.UrlFault.TheVariants as url

abbrev pub pattern_fault_number : PatternFault → ℕ
pattern_fault_number pattern.HasProtocol = 3
pattern_fault_number pattern.BadPort = 4
pattern_fault_number pattern.BadClass = 5
pattern_fault_number pattern.BadRegex = 6
pattern_fault_number pattern.EmptyLabel = 7
pattern_fault_number pattern.BadAddress = 42
pattern_fault_number pattern.Mem = 0

abbrev pub pattern_fault_name : PatternFault → List ℕ
pattern_fault_name pattern.HasProtocol = codes "HasProtocol"
pattern_fault_name pattern.BadPort = codes "BadPort"
pattern_fault_name pattern.BadClass = codes "BadClass"
pattern_fault_name pattern.BadRegex = codes "BadRegex"
pattern_fault_name pattern.EmptyLabel = codes "EmptyLabel"
pattern_fault_name pattern.BadAddress = codes "BadAddress"
pattern_fault_name pattern.Mem = codes "Mem"

abbrev pub url_fault_number : UrlFault → ℕ
url_fault_number url.NotHttp = 8
url_fault_number url.NoHost = 9
url_fault_number url.HasUser = 10
url_fault_number url.BadPort = 11
url_fault_number url.BadByte = 43
url_fault_number url.Mem = 0

abbrev pub url_fault_name : UrlFault → List ℕ
url_fault_name url.NotHttp = codes "NotHttp"
url_fault_name url.NoHost = codes "NoHost"
url_fault_name url.HasUser = codes "HasUser"
url_fault_name url.BadPort = codes "BadPort"
url_fault_name url.BadByte = codes "BadByte"
url_fault_name url.Mem = codes "Mem"

-- the refusal is the one of the text, or want of memory, which has no cause there
abbrev pub IsPatternRefusal : {X : Type 0} → Result X PatternFault → PatternFault → Type 0
IsPatternRefusal {X} meaning pattern.Mem = Unit {0}
IsPatternRefusal {X} meaning fault = meaning ≡ Err fault

abbrev pub IsUrlRefusal : {X : Type 0} → Result X UrlFault → UrlFault → Type 0
IsUrlRefusal {X} meaning url.Mem = Unit {0}
IsUrlRefusal {X} meaning fault = meaning ≡ Err fault

-- the refusal of a class that can't be read, or want of memory
abbrev pub IsClassRefusal : {X : Type 0} → Option X → PatternFault → Type 0
IsClassRefusal {X} meaning pattern.Mem = Unit {0}
IsClassRefusal {X} meaning pattern.BadClass = meaning ≡ None
IsClassRefusal {X} meaning fault = ⊥
