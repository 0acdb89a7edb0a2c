use Rattle.std.proofs.Common.{ap, sym, ◌∙◌, arith, List, ℕ}
use Rattle.std.specs.Prelude.{is_some}
use Rattle.regex_hir.specs.Find.{find}
use Rattle.regex_hir.specs.Re.{Re}
use Rattle.px_patterns.specs.Expressions.{finds}
use Rattle.px_patterns.proofs.SlashLemmas.{slash_finds}
use Rattle.px_patterns.proofs.expressions.Expression.finds.Goals as goal

pub returns-in_ok-matcher-in-Some-clause-value : goal.returns-in_ok-matcher-in-Some-clause-value
returns-in_ok-matcher-in-Some-clause-value c =
    c.is_match.ensures.found
    ∙ ap (λ (re : Re). is_some (find re c.args.bytes.now 0)) c.in_ok-matcher-in-Some.ensures.pattern
    ∙ c.in-Some.ensures.finds c.args.bytes.now (λ k. omega (arith, c.type_inv.bytes k))

pub returns-in-None-clause-value : goal.returns-in-None-clause-value
returns-in-None-clause-value c =
    c.begins_with_slash.ensures ∙ slash_finds c.args.bytes.now (λ k. omega (arith, c.type_inv.bytes k)) ∙ ap (λ (text : List ℕ). finds text c.args.bytes.now) (sym c.in-None.ensures)
