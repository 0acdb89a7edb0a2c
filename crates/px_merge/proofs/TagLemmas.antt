-- Patterns of a section that are tried one after the other.
use Rattle.std.proofs.Common.{◌≡◌, ℕ, ◌<◌, Bool, false, length, Option, None, Some, refl, sym, ap, ◌∙◌}
use Rattle.std.specs.List.{list_any}
use mathlib.Core.Logic.{⊎_elim}
use Rattle.std.proofs.lemmas.Bool.{cases_Bool, false≢true}
use Rattle.std.proofs.lemmas.Option.{slice_get_within}
use Rattle.px_action_files.specs.declared.patterns.Pattern.{Pattern}
use Rattle.px_merge.specs.Indexes.{passes, pattern_in}
use Rattle.px_merge.specs.Selections.{has_some, patterns_in}
use Rattle.px_merge.specs.declared.places.Placed.{Placed}
use Rattle.px_merge.proofs.ListLemmas.{stands_at}

-- a section of which no pattern passes
pub none_passes : (test : Pattern → Bool) (o : Option Placed) → ((j : ℕ) → j < length (patterns_in o) → passes test (pattern_in o j) ≡ false) → has_some test o ≡ false
none_passes test None none = refl
none_passes test (Some p) none =
    ⊎_elim
    (λ some.
    let s = stands_at test p.section.patterns some in
    absurd (false≢true (sym (none s.place (slice_get_within p.section.patterns s.place s.item s.at)) ∙ ap (passes test) s.at ∙ s.passes)))
    (λ fails. fails)
    (cases_Bool (list_any test p.section.patterns))
