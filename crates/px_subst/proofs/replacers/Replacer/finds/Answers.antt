use Rattle.std.proofs.Common.{◌∙◌, sym, arith}
use Rattle.regex.specs.Bytes.{matcher_pattern}
use Rattle.px_subst.proofs.FindsLemmas.{replaces_nothing, replaces_some}
use Rattle.px_subst.proofs.replacers.Replacer.finds.Goals as goal

pub returns-clause-miss : goal.returns-clause-miss
returns-clause-miss c = λ missing.
    replaces_nothing c.args.self.now (matcher_pattern c.args.search.now.matcher) c.args.text.now c.requires.searches
    (λ k. omega (arith, c.type_inv.text k)) (sym c.finds.ensures.value ∙ missing)

pub returns-clause-hit : goal.returns-clause-hit
returns-clause-hit c = λ there.
    replaces_some c.args.self.now (matcher_pattern c.args.search.now.matcher) c.args.text.now c.requires.searches
    (λ k. omega (arith, c.type_inv.text k)) (sym c.finds.ensures.value ∙ there)
