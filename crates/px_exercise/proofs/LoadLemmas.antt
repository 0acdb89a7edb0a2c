-- Faults of files that no read fails of.
use Rattle.std.proofs.Common.{◌≡◌, ◌∙◌, ℕ, Result, Ok, Err, IfErr, MatchResult, arith}
use Rattle.px_base.specs.Causes.{Rose}
use Rattle.px_config.specs.Faults.{Fault, IsFault}
use Rattle.px_config.specs.Loading.{IsLoadFault, LoadCause}
use Rattle.px_config.specs.declared.faults.LoadFault.{LoadFault}
use Rattle.px_config.specs.declared.faults.LoadFault.TheVariants as fault

-- the same of one fault, where the count stands at 0
no_read : {X : Type 0} (meaning : Result X Fault) (f : LoadFault) (now : ℕ) → IsLoadFault meaning f → LoadCause 0 now f → now ≡ 0 → IsFault meaning f
no_read meaning (fault.Spelled file line number) now h cause none = h
no_read meaning (fault.Read file) now h cause none = let rose : Rose 0 now = cause in absurd (omega (arith, rose, none))
no_read meaning fault.Mem now h cause none = tt

-- where no read failed, a fault is one of the files, or want of memory
pub no_read_fault : {X T : Type 0} (meaning : Result X Fault) (r : Result T LoadFault) (before now : ℕ) → IfErr r (IsLoadFault meaning)
    → MatchResult r (λ _. now ≡ before) (λ f. LoadCause before now f) → before ≡ 0 → now ≡ before → IfErr r (IsFault meaning)
no_read_fault meaning (Ok made) before now h cause none same = tt
no_read_fault meaning (Err f) before now h cause none same = no_read meaning f now h (rw none at cause) (same ∙ none)
