-- Refusals that are handed on.
use Rattle.std.proofs.Common.{◌≡◌, ◌∙◌, sym, subst, Option, None, Result, Ok, Err}
use Rattle.std.specs.Prelude.{IfErr, IfOk}
use Rattle.std.proofs.lemmas.Result.{IfErr-weaker, IfOk-weaker}
use Rattle.px_patterns.specs.declared.faults.PatternFault.{PatternFault}
use Rattle.px_patterns.specs.declared.faults.PatternFault.TheVariants.{BadAddress, BadClass, BadPort, BadRegex, EmptyLabel, HasProtocol, Mem}
use Rattle.px_patterns.specs.declared.faults.UrlFault.{UrlFault}
use Rattle.px_patterns.specs.Faults.{IsClassRefusal, IsPatternRefusal, IsUrlRefusal}

-- a refusal of a part is the refusal of the whole, where the whole is refused by it
pub refusal_on : {X Y : Type 0} (part : Result X PatternFault) (whole : Result Y PatternFault) (fault : PatternFault) → IsPatternRefusal part fault → (part ≡ Err fault → whole ≡ Err fault) → IsPatternRefusal whole fault
refusal_on part whole Mem refused on = tt
refusal_on part whole BadAddress refused on = on refused
refusal_on part whole BadClass refused on = on refused
refusal_on part whole BadPort refused on = on refused
refusal_on part whole BadRegex refused on = on refused
refusal_on part whole EmptyLabel refused on = on refused
refusal_on part whole HasProtocol refused on = on refused

-- the same of a class
pub class_refusal_on : {X Y : Type 0} (part : Option X) (whole : Option Y) (fault : PatternFault) → IsClassRefusal part fault → (part ≡ None → whole ≡ None) → IsClassRefusal whole fault
class_refusal_on part whole Mem refused on = tt
class_refusal_on part whole BadClass refused on = on refused
class_refusal_on part whole BadAddress refused on = absurd refused
class_refusal_on part whole BadPort refused on = absurd refused
class_refusal_on part whole BadRegex refused on = absurd refused
class_refusal_on part whole EmptyLabel refused on = absurd refused
class_refusal_on part whole HasProtocol refused on = absurd refused

-- a class that can't be read refuses the whole by its number
pub bad_class_on : {X Y : Type 0} (part : Option X) (whole : Result Y PatternFault) (fault : PatternFault) → IsClassRefusal part fault → (part ≡ None → whole ≡ Err BadClass) → IsPatternRefusal whole fault
bad_class_on part whole Mem refused on = tt
bad_class_on part whole BadClass refused on = on refused
bad_class_on part whole BadAddress refused on = absurd refused
bad_class_on part whole BadPort refused on = absurd refused
bad_class_on part whole BadRegex refused on = absurd refused
bad_class_on part whole EmptyLabel refused on = absurd refused
bad_class_on part whole HasProtocol refused on = absurd refused

-- an answer that is handed on as it is, where the two meanings are one
pub handed_ok : {X E : Type 0} (r : Result X E) (whole part : Result X E) → whole ≡ part → IfOk r (λ x. part ≡ Ok x) → IfOk r (λ x. whole ≡ Ok x)
handed_ok r whole part is = IfOk-weaker r (λ x. part ≡ Ok x) (λ x. whole ≡ Ok x) (λ x read. is ∙ read)

pub handed_refusal : {X : Type 0} (r : Result X PatternFault) (whole part : Result X PatternFault) → whole ≡ part → IfErr r (IsPatternRefusal part) → IfErr r (IsPatternRefusal whole)
handed_refusal r whole part is = IfErr-weaker r (IsPatternRefusal part) (IsPatternRefusal whole) (λ fault refused. subst (λ m. IsPatternRefusal m fault) (sym is) refused)

pub handed_url_refusal : {X : Type 0} (r : Result X UrlFault) (whole part : Result X UrlFault) → whole ≡ part → IfErr r (IsUrlRefusal part) → IfErr r (IsUrlRefusal whole)
handed_url_refusal r whole part is = IfErr-weaker r (IsUrlRefusal part) (IsUrlRefusal whole) (λ fault refused. subst (λ m. IsUrlRefusal m fault) (sym is) refused)
