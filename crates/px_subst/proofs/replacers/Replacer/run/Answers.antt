use Rattle.std.proofs.Common.{◌≡◌, ◌-◌, ◌^◌, cond, ap, ◌∙◌, sym, arith}
use Rattle.std.proofs.lemmas.Bool.{cond-true, cond-false}
use Rattle.regex.specs.Bytes.{matcher_pattern}
use Rattle.px_subst.specs.Replacers.{Built, items_in_all, replaced_up_to}
use Rattle.px_subst.proofs.Alike.{built_replaces, replaced_by_limit}
use Rattle.px_subst.proofs.replacers.Replacer.run.Goals as goal
use Rattle.px_subst.proofs.replacers.Replacer.run.Goals.{then-self, else-self}

pub returns-clause-value : goal.returns-clause-value
returns-clause-value c =
    let b = c.args.self.now in
    let re = matcher_pattern c.args.search.now.matcher in
    let text = c.args.text.now in
    let limit = c.if-self.limit in
    let limit_is : limit ≡ cond c.self.inside.flags.every (2 ^ 64 - 1) 1 = elim c.if-self.branch [
      | then-self w ↦ w.limit-is ∙ sym (cond-true _ _ _ w.if-self.true)
      | else-self w ↦ w.limit-is ∙ sym (cond-false _ _ _ w.if-self.false)
    ] in
    c.in_ok-replace_matches.ensures.value
    ∙ ap (λ parts. replaced_up_to limit (items_in_all parts) re text) c.as_slice.ensures.value
    ∙ ap (λ (x : Built). replaced_up_to limit x.items re text) c.self.view_is
    ∙ replaced_by_limit b.flags.every limit b.items re text
    (limit_is ∙ ap (λ (x : Built). cond x.flags.every (2 ^ 64 - 1) 1) c.self.view_is) (omega arith)
    ∙ built_replaces b re text c.requires.searches (λ k. omega (arith, c.type_inv.text k))
