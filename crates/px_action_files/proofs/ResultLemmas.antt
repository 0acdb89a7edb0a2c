-- What is read part by part.
use Rattle.std.proofs.Common.{◌≡◌, ℕ, ap, subst, Ok, Err}
use Rattle.std.specs.Prelude.{Result, ◌≢◌}
use Rattle.px_actions.specs.declared.faults.ActionFault.{ActionFault}
use Rattle.px_actions.specs.declared.faults.ActionFault.TheVariants as action
use Rattle.px_action_files.specs.Faults.{Refused, word_number, at_line, and_then, IsReported, reported_word}
use Rattle.px_action_files.specs.declared.faults.FileFault.{FileFault}
use Rattle.px_action_files.specs.declared.faults.FileFault.TheVariants as fault
use Rattle.px_base.specs.Results.{result_map}

-- a refusal of the first part is one of the whole
pub reported_then : {X Y : Type 0} (m : Result X Refused) (rest : X → Result Y Refused) (f : FileFault) → IsReported m f → IsReported (and_then m rest) f
reported_then m rest (fault.At line number) h = ap (λ r. and_then r rest) h
reported_then m rest fault.Mem h = h

pub reported_map : {X Y : Type 0} (made : X → Y) (m : Result X Refused) (f : FileFault) → IsReported m f → IsReported (result_map made m) f
reported_map made m (fault.At line number) h = ap (result_map made) h
reported_map made m fault.Mem h = h

pub reported_same : {X : Type 0} (m n : Result X Refused) (f : FileFault) → m ≡ n → IsReported m f → IsReported n f
reported_same m n f e h = subst (λ r. IsReported r f) e h

-- a refused word is reported at its line
pub word_reported : {X : Type 0} (line : ℕ) (m : Result X ActionFault) (f : ActionFault) → (f ≢ action.Mem → m ≡ Err f) → IsReported (at_line line word_number m) (reported_word line f)
word_reported line m action.UnknownAction h = ap (at_line line word_number) (h (λ e. (cc)))
word_reported line m action.ParameterWanted h = ap (at_line line word_number) (h (λ e. (cc)))
word_reported line m action.ParameterUnwanted h = ap (at_line line word_number) (h (λ e. (cc)))
word_reported line m action.BadParameter h = ap (at_line line word_number) (h (λ e. (cc)))
word_reported line m action.Mem h = tt

-- what goes on from what is made of a value
pub then_made : {X Y Z F : Type 0} (m : Result X F) (made : X → Y) (y : Y) (rest : Y → Result Z F) → result_map made m ≡ Ok y → and_then m (λ x. rest (made x)) ≡ rest y
then_made (Ok x) made y rest e = ap rest (let same : made x ≡ y = (cc) in same)
then_made (Err f) made y rest e = absurd (cc)
