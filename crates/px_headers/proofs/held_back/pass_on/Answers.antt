use Rattle.std.proofs.Common.{◌≤◌, ◌∙◌, length, arith}
use Rattle.px_headers.specs.HeldBack.{is_held}
use Rattle.px_headers.proofs.HeldLemmas.{all-seen, passed-is}
use Rattle.px_headers.proofs.held_back.pass_on.Goals as goal

pub returns-clause-is : goal.returns-clause-is
returns-clause-is c =
    let end : length c.fields.kept.items ≤ c.fields.at = omega (arith, c.fields-test.false, c.len.ensures) in
    c.from_vec.ensures ∙ all-seen (λ f. is_held c.args.held.now f.name) c.args.fields c.fields.kept.items c.fields.at end c.fields.invariant.same

pub returns-clause-passed : goal.returns-clause-passed
returns-clause-passed c = λ message is. returns-clause-is c ∙ passed-is message c.args.fields c.args.held.now is
