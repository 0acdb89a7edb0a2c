-- Fronts of texts, and the refusals of patterns.
use Rattle.std.proofs.Common.{◌≡◌, ℕ, ◌+◌, true, false, List, sym, ap, subst, Option, Some, None, length, drop, nat_eq}
use Rattle.std.specs.Prelude.{Result, MatchOption}
use Rattle.std.specs.Borrow.{Bor}
use Rattle.std.specs.List.{starts_with}
use Rattle.std.specs.Str.{IsCharBoundary}
use Rattle.std.specs.Str.Pattern.{FindsTextPrefix}
use Rattle.std.proofs.lemmas.Str.Pattern.{starts_text}
use Rattle.px_patterns.specs.Faults.{IsPatternRefusal, pattern_fault_number}
use Rattle.px_patterns.specs.declared.faults.PatternFault.{PatternFault}
use Rattle.px_patterns.specs.declared.faults.PatternFault.TheVariants as fault
use Rattle.px_action_files.specs.Faults.{at_line, IsReported, reported_pattern}
use Rattle.px_action_files.specs.declared.patterns.Pattern.{Pattern}
use Rattle.px_base.specs.Results.{result_map}

-- what `strip_prefix` at a text says
pub strips_text : (n s : List ℕ) (r : Option (Bor (List ℕ)))
    → MatchOption r (FindsTextPrefix n s None) (λ x. (k : ℕ) × FindsTextPrefix n s (Some k) × (x.now ≡ drop k s) × (length x.now + k ≡ length s))
    → MatchOption r (starts_with nat_eq s n ≡ false) (λ x. (starts_with nat_eq s n ≡ true) × (x.now ≡ drop (length n) s))
strips_text n s None h = sym (starts_text false n s h)
strips_text n s (Some x) h = (
  sym (starts_text true n s (h.0, h.1, subst (λ k. IsCharBoundary s k) (sym h.1.0) h.1.2)),
  subst (λ k. x.now ≡ drop k s) h.1.0 h.2,
)

-- a refusal of a pattern's text is one of what is made of the pattern
pub refusal_map : {X Y : Type 0} (made : X → Y) (m : Result X PatternFault) (f : PatternFault) → IsPatternRefusal m f → IsPatternRefusal (result_map made m) f
refusal_map made m fault.HasProtocol h = ap (result_map made) h
refusal_map made m fault.BadPort h = ap (result_map made) h
refusal_map made m fault.BadClass h = ap (result_map made) h
refusal_map made m fault.BadRegex h = ap (result_map made) h
refusal_map made m fault.EmptyLabel h = ap (result_map made) h
refusal_map made m fault.BadAddress h = ap (result_map made) h
refusal_map made m fault.Mem h = h

pub refusal_same : {X : Type 0} (m n : Result X PatternFault) (f : PatternFault) → m ≡ n → IsPatternRefusal m f → IsPatternRefusal n f
refusal_same m n f e h = subst (λ r. IsPatternRefusal r f) e h

pub refusal_reported : (line : ℕ) (m : Result Pattern PatternFault) (f : PatternFault) → IsPatternRefusal m f
    → IsReported (at_line line pattern_fault_number m) (reported_pattern line f)
refusal_reported line m fault.HasProtocol h = ap (at_line line pattern_fault_number) h
refusal_reported line m fault.BadPort h = ap (at_line line pattern_fault_number) h
refusal_reported line m fault.BadClass h = ap (at_line line pattern_fault_number) h
refusal_reported line m fault.BadRegex h = ap (at_line line pattern_fault_number) h
refusal_reported line m fault.EmptyLabel h = ap (at_line line pattern_fault_number) h
refusal_reported line m fault.BadAddress h = ap (at_line line pattern_fault_number) h
refusal_reported line m fault.Mem h = tt
