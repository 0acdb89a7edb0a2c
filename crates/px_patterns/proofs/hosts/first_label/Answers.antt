use Rattle.std.proofs.Common.{◌≡◌, ◌+◌, ◌∷◌, ◌∙◌, sym, ap, subst, false, take}
use Rattle.std.specs.List.{list_any}
use Rattle.std.proofs.lemmas.List.{take_all, take_rest}
use Rattle.px_patterns.specs.Hosts.{labels_in}
use Rattle.px_patterns.proofs.EndLabelLemmas.{alone, is_dot}
use Rattle.px_patterns.proofs.FirstLabelLemmas.{cut_at_first}
use Rattle.px_patterns.proofs.hosts.first_label.Goals as goal

pub returns-then-byte-eq-DOT-clause-parts : goal.returns-then-byte-eq-DOT-clause-parts
returns-then-byte-eq-DOT-clause-parts c =
    cut_at_first c.args.bytes.now c.loop-at.at c.loop-at-test.true c.if-byte-eq-DOT.true c.loop-at.invariant
    ∙ ap (λ l. take c.loop-at.at c.args.bytes.now ∷ labels_in l) (sym (take_rest c.args.bytes.now (c.loop-at.at + 1)))

pub returns-clause-parts : goal.returns-clause-parts
returns-clause-parts c =
    alone c.args.bytes.now (subst (λ l. list_any is_dot l ≡ false) (take_all c.loop-at.at c.args.bytes.now c.loop-at-test.false) c.loop-at.invariant)
