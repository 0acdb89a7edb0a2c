use Rattle.std.proofs.Common.{◌≡◌, [], ◌∷◌, ◌++◌, sym, ap, ◌∙◌, arith}
use Rattle.std.proofs.lemmas.Grind.{common_steps}
use Rattle.px_merge.specs.Selections.{is_of_purpose, picked}
use Rattle.px_merge.proofs.SelectionLemmas.{walked_found, walked_skipped}
use Rattle.px_merge.proofs.lists.numbers_of.Goals as goal
use Rattle.px_merge.proofs.lists.numbers_of.Goals.{then-is_listed+in_ok-push, else-is_listed}

pub loop-at-preserved : goal.loop-at-preserved
loop-at-preserved c =
    let sections = c.args.sections.now in
    let test = is_of_purpose c.args.purpose in
    let hits = c.loop-at.numbers.items in
    elim c.if-is_listed.branch [
      | then-is_listed+in_ok-push w ↦
          let pushed : c.if-is_listed.numbers.items ≡ hits ++ c.loop-at.at ∷ [] = grind (arith, common_steps) in
          ap (picked sections) pushed ∙ walked_found test sections hits c.loop-at.at c.loop-at.invariant (sym c.is_listed.ensures ∙ w.if-is_listed.true)
      | else-is_listed w ↦
          let same : c.if-is_listed.numbers.items ≡ hits = cc in
          ap (picked sections) same ∙ walked_skipped test sections hits c.loop-at.at c.loop-at.invariant (sym c.is_listed.ensures ∙ w.if-is_listed.false)
    ]
