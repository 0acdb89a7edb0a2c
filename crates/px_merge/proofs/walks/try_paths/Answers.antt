use Rattle.std.proofs.Common.{◌≡◌, false, ◌++◌, append-nil, ap, ◌∙◌, subst, sym}
use Rattle.std.specs.List.{list_any}
use Rattle.px_patterns.specs.Expressions.{finds}
use Rattle.px_merge.proofs.walks.try_paths.Goals as goal

pub returns-then-not-branch-clause-hits : goal.returns-then-not-branch-clause-hits
returns-then-not-branch-clause-hits g c =
    let texts = c.args.union.now in
    let hits = c.args.hits.now.items in
    let none : list_any (λ text. finds text c.args.test.now.url.now.path) texts ≡ false =
    subst (λ path. list_any (λ text. finds text path) texts ≡ false) c.as_bytes.ensures (sym c.in_ok-finds_any.ensures.value ∙ c.if-not-branch.true) in
    sym (ap (λ more. hits ++ more) (c.requires c.args.test.now.url.now c.args.test.now.tags.now none) ∙ append-nil hits)
