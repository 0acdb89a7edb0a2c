use Rattle.std.proofs.Common.{◌≡◌, ◌∷◌, ap, ◌∙◌, subst, arith}
use Rattle.std.proofs.lemmas.Grind.{common_steps}
use Rattle.std.specs.Prelude.{option_to_list, slice_get}
use Rattle.px_merge.specs.Merging.{updates_in}
use Rattle.px_merge.specs.Selections.{picked}
use Rattle.px_merge.proofs.FrontLemmas.{HasDone, done_more, on_err_given, stopped}
use Rattle.px_merge.proofs.SelectionLemmas.{updates_rest}
use Rattle.px_merge.proofs.selections.apply_picked.Goals as goal

pub returns-in_err-apply_one-clause-err : goal.returns-in_err-apply_one-clause-err
returns-in_err-apply_one-clause-err c =
    let sections = c.args.sections.now in
    let all = updates_in (picked sections c.args.numbers.now) in
    let o = slice_get sections c.in-Some.number.now in
    let behind = picked sections c.in-Some.others.now in
    let cut : c.numbers.rest.now ≡ c.in-Some.number.now ∷ c.in-Some.others.now = grind (arith, common_steps) in
    on_err_given c.from_residual.result
    (stopped c.args.set.now c.numbers.set c.apply_one.new.set all (updates_in (option_to_list o)) (updates_in behind)
    (subst (HasDone c.args.set.now c.numbers.set all) (ap (λ numbers. updates_in (picked sections numbers)) cut ∙ updates_rest o behind) c.numbers.invariant)
    c.in_err-apply_one.ensures.err)

pub numbers-preserved : goal.numbers-preserved
numbers-preserved c =
    let sections = c.args.sections.now in
    let all = updates_in (picked sections c.args.numbers.now) in
    let o = slice_get sections c.in-Some.number.now in
    let behind = picked sections c.in-Some.others.now in
    let cut : c.numbers.rest.now ≡ c.in-Some.number.now ∷ c.in-Some.others.now = grind (arith, common_steps) in
    done_more c.args.set.now c.numbers.set c.apply_one.new.set all (updates_in (option_to_list o)) (updates_in behind)
    (subst (HasDone c.args.set.now c.numbers.set all) (ap (λ numbers. updates_in (picked sections numbers)) cut ∙ updates_rest o behind) c.numbers.invariant)
    c.in_ok-apply_one.ensures.ok
