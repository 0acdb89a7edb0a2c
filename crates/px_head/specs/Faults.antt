-- The refusals of heads: number, name, and when one comes.
use Rattle.std.specs.Prelude.{◌≡◌, ℕ, ◌⊎◌, List, codes, Result, Ok, Err, MatchResult}
use Rattle.px_head.specs.declared.faults.HeadFault.{HeadFault}
use Rattle.px_head.specs.declared.faults.HeadFault.TheVariants.{Malformed, TooManyFields, Mem}

-- the number; want of memory has none
abbrev pub head_fault_number : HeadFault → ℕ
head_fault_number Malformed = 34
head_fault_number TooManyFields = 35
head_fault_number Mem = 0

abbrev pub head_fault_name : HeadFault → List ℕ
head_fault_name Malformed = codes "Malformed"
head_fault_name TooManyFields = codes "TooManyFields"
head_fault_name Mem = codes "Mem"

-- the refusal of a head over the limit, which is no fault of a reader but where its block ends
abbrev pub too_long_number : ℕ
too_long_number = 36

abbrev pub too_long_name : List ℕ
too_long_name = codes "TooLong"

-- the fault is the answer, or memory was wanting
abbrev pub IsHeadRefused : {T : Type 0} → Result T HeadFault → HeadFault → Type 0
IsHeadRefused result fault = MatchResult result (λ _. ⊥) (λ e. (e ≡ fault) ⊎ (e ≡ Mem))

-- that head is the answer, or memory was wanting
abbrev pub IsHeadReadAs : {T : Type 0} → Result T HeadFault → T → Type 0
IsHeadReadAs result head = (result ≡ Ok head) ⊎ (result ≡ Err Mem)

-- the fault comes exactly where that holds, save that memory may be wanting there
pub record ComesExactly {T : Type 0} (result : Result T HeadFault) (fault : HeadFault) (where_ : Type 0) : Type 0 where
  pub only : result ≡ Err fault → where_
  pub always : where_ → IsHeadRefused result fault
