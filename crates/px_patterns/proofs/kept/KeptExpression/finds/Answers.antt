use Rattle.std.proofs.Common.{ap, ◌∙◌}
use Rattle.std.specs.Prelude.{is_some}
use Rattle.regex_hir.specs.Find.{find}
use Rattle.regex_hir.specs.Re.{Re}
use Rattle.regex.specs.Bytes.{matcher_pattern}
use Rattle.regex.specs.declared.bytes.matcher.Matcher.{Matcher}
use Rattle.px_patterns.proofs.kept.KeptExpression.finds.Goals as goal

pub invariant_of-self-2 : goal.invariant_of-self-2
invariant_of-self-2 c = λ bytes fits.
    ap (λ (re : Re). is_some (find re bytes 0)) (c.is_match-found.ensures.same ∙ ap (λ (m : Matcher). matcher_pattern m) c.deref_mut-2.ensures.value ∙ c.in_ok-matcher.ensures)
    ∙ c.in-Some-regex.ensures.finds bytes fits
