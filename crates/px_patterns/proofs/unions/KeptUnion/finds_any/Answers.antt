use Rattle.std.proofs.Common.{ap, ◌∙◌, arith, List, ℕ}
use Rattle.std.specs.Prelude.{is_some}
use Rattle.std.specs.List.{list_any}
use Rattle.regex_hir.specs.Find.{find}
use Rattle.regex.specs.Bytes.{set_matcher_patterns}
use Rattle.regex.specs.declared.bytes.set.SetMatcher.{SetMatcher}
use Rattle.px_patterns.specs.Expressions.{finds}
use Rattle.px_patterns.proofs.UnionLemmas.{any_texts}
use Rattle.px_patterns.proofs.unions.KeptUnion.finds_any.Goals as goal

pub returns-in-Some-clause-value : goal.returns-in-Some-clause-value
returns-in-Some-clause-value c =
    let all = rw c.in-Some.is at c.self.invariant in
    c.is_found.ensures.found
    ∙ ap (λ (m : SetMatcher). list_any (λ re. is_some (find re c.args.bytes.now 0)) (set_matcher_patterns m)) c.deref_mut.ensures.value
    ∙ any_texts c.self.inside.union.now _ c.args.bytes.now all (λ k. omega (arith, c.type_inv.bytes k))
    ∙ ap (λ (texts : List (List ℕ)). list_any (λ text. finds text c.args.bytes.now) texts) c.self.view_is

pub returns-clause-value : goal.returns-clause-value
returns-clause-value c =
    c.is_found-found.ensures.found
    ∙ ap (λ (m : SetMatcher). list_any (λ re. is_some (find re c.args.bytes.now 0)) (set_matcher_patterns m)) c.deref_mut-2.ensures.value
    ∙ any_texts c.self.inside.union.now _ c.args.bytes.now c.in_ok-matcher.ensures (λ k. omega (arith, c.type_inv.bytes k))
    ∙ ap (λ (texts : List (List ℕ)). list_any (λ text. finds text c.args.bytes.now) texts) c.self.view_is
